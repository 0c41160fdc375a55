use Rattle.model.proofs.Lists.{sum-take-le}
use native.Mathlib.Omega.{arith}
use Rattle.solution.proofs.offset.Goals as goal

pub overflow_add-result : goal.overflow_add-result
overflow_add-result c =
    omega (arith, sum-take-le c.args.plan.now c.args.k c.args.v c.requires.0)
