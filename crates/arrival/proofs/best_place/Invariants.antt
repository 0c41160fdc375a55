-- The invariant: the best so far is the choice among the places of the vehicles passed.
use Prim.Native.Nat.{◌≤◌}
use Rattle.model.specs.Whole.{IsWhole}
use Rattle.model.specs.StopSet.{including}
use Rattle.model.proofs.Placings.{passed}
use Rattle.solution.specs.Held.{routes}
use Rattle.delivery.specs.Costs.{table_live}
use Rattle.arrival.specs.Places.{counted}
use Rattle.arrival.proofs.Choice.{Chosen}
use Rattle.arrival.proofs.best_place.Given as goal

abbrev pub invariant-loop-k : goal.invariant-loop-k
invariant-loop-k l =
    (l.k ≤ l.plan.v)
    × IsWhole l.found.cost
    × Chosen (table_live l.tariff.legs.table l.tariff.prices (including l.stop l.live)) l.stop (routes l.plan) (passed l.stop (routes l.plan) l.k 0) (counted l.found)
