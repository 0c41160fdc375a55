-- `view::unplaced_set`: the set has the unplaced stops from s on.
use Prim.Native.Nat.{◌≤◌}
use mathlib.Core.Path.{◌≡◌}
use Rattle.solution.specs.Held.{routes}
use Rattle.view.proofs.Unplaced.{set_from}
use Rattle.view.proofs.unplaced_set.Given as goal

abbrev pub invariant-loop-s : goal.invariant-loop-s
invariant-loop-s l = (l.s ≤ l.plan.n) × (l.set ≡ set_from (routes l.plan) l.plan.n l.s)
