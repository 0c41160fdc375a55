use Rattle.std.proofs.Common.{◌∙◌, ap, arith}
use Rattle.std.specs.Fmt.{signed_decimal}
use mir.Syntax.{w64}
use mir.ValLaws.{to_z-of_z}
use Rattle.file_columns.proofs.Signs.{signed_put}
use Rattle.file_columns.proofs.put_signed.Goals as goal

pub returns : goal.returns
returns c =
    signed_put _ _ _ _ 20 _ (omega (arith, c.ranges.z.sfits))
    (c.as_bytes.ensures.value ∙ c.format.ensures.text ∙ ap signed_decimal (to_z-of_z w64 c.args.z c.ranges.z)) c.put_text.ensures
