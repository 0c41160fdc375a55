-- The plan with other routes is lent by what is asked, and stands in the front of the numbers.
use Rattle.model.proofs.PlanForm.{lent_length}
use Rattle.joining.proofs.Changed.{replaced-few}
use Rattle.joining.proofs.changes.replace.Goals as goal

pub replace_two-requires-clause-bound : goal.replace_two-requires-clause-bound
replace_two-requires-clause-bound c =
    let p = c.args.plan.now in
    replaced-few p.v p.n _ c.args.a c.args.b c.args.first.now c.args.second.now (lent_length p.v p.n _ p.lent) c.requires.lent
