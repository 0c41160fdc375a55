-- The invariant: the best so far is the best of the places passed.
use Prim.Native.Nat.{suc, ◌≤◌}
use mathlib.Core.Path.{◌≡◌}
use lib.ListN.{length as long}
use Rattle.model.specs.Whole.{amount, IsWhole}
use Rattle.model.specs.Plan.{route_of}
use Rattle.solution.specs.Held.{routes}
use Rattle.arrival.specs.Places.{counted, tried_on}
use Rattle.arrival.proofs.best_on.Given as goal

abbrev pub invariant-loop-position : goal.invariant-loop-position
invariant-loop-position l =
    (l.position ≤ suc (long l.route))
    × IsWhole l.found.cost
    × (counted l.found ≡ tried_on l.tariff.legs.table l.tariff.prices l.k (route_of (routes l.plan) l.k) (amount l.left) l.stop l.position (counted l.initial.found))
