use Rattle.std.proofs.Common.{◌≡◌, ◌∙◌, ap, length, arith, decimal}
use Rattle.std.proofs.lemmas.Fmt.{length-decimal-le}
use Rattle.file_columns.proofs.Signs.{number-put}
use Rattle.file_columns.proofs.put_number.Goals as goal

pub put_text-requires : goal.put_text-requires
put_text-requires c =
    let few = length-decimal-le c.args.width c.args.n c.requires.some c.requires.fits (omega (arith, c.ranges.n)) in
    let long : length c.as_bytes.result.now ≡ length (decimal c.args.n) = ap length (c.as_bytes.ensures.value ∙ c.format.ensures.text) in
    (omega (arith, few, long), c.requires.room)

pub returns : goal.returns
returns c =
    number-put _ _ _ _ c.args.width _ (omega (arith, c.ranges.n)) (c.as_bytes.ensures.value ∙ c.format.ensures.text) c.put_text.ensures
