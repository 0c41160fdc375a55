-- The regions that `compose` is lent are the plan's, and the codes say what the word says.
use native.Mathlib.Omega.{arith}
use lib.ListN.{take}
use lib.Seq.{length-take-le}
use Rattle.rebuild_frame.proofs.Plans.{parts-gapped, parts-few, parts-form}
use Rattle.rebuild_frame.proofs.write_form.Goals as goal

pub compose-requires : goal.compose-requires
compose-requires c =
    let k = c.codes_of-m in
    let f = c.args.frame.now in
    let p = c.gaps-p in
    record {
      gapped = parts-gapped f c.args.word c.requires p.result p.ensures;
      to_len = (length-take-le _ _ (omega (arith, f.plan.sizes.vehicles, f.plan.sizes.stops)), parts-few f c.args.word c.requires p.result p.ensures (take k.result k.new.codes) k.ensures.0);
    }

pub returns : goal.returns
returns c =
    let k = c.codes_of-m in
    let p = c.gaps-p in
    parts-form c.args.frame.now c.args.word c.requires p.result p.ensures (take k.result k.new.codes) k.ensures.0 _ _ c.compose.ensures
