-- `Plan::find`: the routes before k do not have the stop, and `at` is its position among the places from route k on.
use Prim.Native.Nat.{◌+◌}
use mathlib.Core.Path.{◌≡◌}
use lib.ListN.{take, drop}
use Rattle.model.specs.Lists.{sum, position}
use Rattle.solution.proofs.Locate.{Passed}
use Rattle.solution.proofs.plan.Plan.find.Given as goal

abbrev pub invariant-loop-k : goal.invariant-loop-k
invariant-loop-k l = (l.at ≡ position l.stop (drop (l.self.v + sum (take l.k l.form)) l.form)) × Passed l.self.v l.form l.stop l.k
