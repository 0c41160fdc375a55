-- No more stops are placed than there are.
use native.Mathlib.Omega.{arith}
use Rattle.model.proofs.PlanForm.{lent_placed}
use Rattle.delivery.proofs.missed.Goals as goal

pub overflow_sub-result : goal.overflow_sub-result
overflow_sub-result c =
    omega (arith, lent_placed c.args.plan.now.v c.args.plan.now.n _ c.args.plan.now.lent, c.args.plan.now.sizes.stops)
