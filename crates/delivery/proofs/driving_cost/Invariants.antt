-- The invariant: the sum is the exact cost of the routes passed, and the next route begins where they end.
use Prim.Native.Nat.{◌+◌}
use mathlib.Core.Path.{◌≡◌}
use lib.ListN.{take}
use Rattle.model.specs.Lists.{sum as added}
use Rattle.model.specs.Whole.{whole}
use Rattle.model.specs.Plan.{decode}
use Rattle.delivery.specs.Costs.{table_driving}
use Rattle.delivery.proofs.driving_cost.Given as goal

abbrev pub invariant-loop-k : goal.invariant-loop-k
invariant-loop-k l =
    (l.at ≡ l.plan.v + added (take l.k l.form)) × (l.sum ≡ whole (table_driving l.tariff.legs.table l.tariff.prices 0 (take l.k (decode l.plan.v l.form))))
