-- What is written is lent again.
use mathlib.Core.Path.{refl}
use Rattle.rebuild_frame.proofs.Plans.{form-lent}
use Rattle.rebuild_frame.proofs.plan_of.Goals as goal

pub invariant_of-result : goal.invariant_of-result
invariant_of-result c =
    let f = c.args.frame.now in
    record { sizes = f.plan.sizes; lent = rw c.write_form.ensures (form-lent f c.args.word c.requires) }

pub returns : goal.returns
returns c = record { vehicles = refl; stops = refl; form = c.write_form.ensures }
