use native.Mathlib.Omega.{arith}
use Rattle.model.proofs.Roads.{Steps, steps}
use Rattle.roads.proofs.ceiling_from.Goals as goal
use Rattle.roads.proofs.ceiling_from.Goals.{Start}

-- how large each step can be
large : (c : Start) → Steps c.args.prices c.args.more c.args.tally.uses c.args.tally.metres
large c = steps _ _ _ _ c.requires.3 c.requires.2 c.requires.0 c.requires.1

pub overflow_mul-longer : goal.overflow_mul-longer
overflow_mul-longer c = omega (arith, (large (goal.at.overflow_mul-longer c).Start).longer)

pub overflow_add-metres : goal.overflow_add-metres
overflow_add-metres c = omega (arith, (large (goal.at.overflow_add-metres c).Start).longer, c.requires.1)

pub overflow_mul-result : goal.overflow_mul-result
overflow_mul-result c = omega (arith, (large (goal.at.overflow_mul-result c).Start).squared)

pub overflow_add-result : goal.overflow_add-result
overflow_add-result c = omega (arith, (large (goal.at.overflow_add-result c).Start).each)

pub overflow_mul-result-2 : goal.overflow_mul-result-2
overflow_mul-result-2 c = omega (arith, (large (goal.at.overflow_mul-result-2 c).Start).all)
