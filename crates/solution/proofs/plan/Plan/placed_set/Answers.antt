use Rattle.solution.proofs.Used.{used-stops}
use native.Mathlib.Omega.{arith}
use Rattle.solution.proofs.plan.Plan.placed_set.Goals as goal

pub set_of-requires : goal.set_of-requires
set_of-requires c =
    let p = c.args.self.now in
    rw (used-stops p.v c.offset-end.result c.form-form.result.now c.offset-end.ensures, c.form-form.ensures)
    ((λ x h. omega (arith, p.lent.below x h)), p.lent.once)

pub returns : goal.returns
returns c =
    rw (used-stops c.args.self.now.v c.offset-end.result c.form-form.result.now c.offset-end.ensures, c.form-form.ensures) at c.set_of.ensures
