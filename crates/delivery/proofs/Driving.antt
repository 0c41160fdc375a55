-- What the routes of a plan cost over a leg table, where one of them changes.
use mathlib.Core.Path.{◌≡◌}
use Prim.Native.Nat.{ℕ, zero, suc, ◌+◌, ◌≤◌, ◌<◌}
use native.Mathlib.Nat.{le_of_suc-le-suc, add-zero, add-suc, suc-add, zero-add}
use native.Mathlib.Omega.{arith}
use mathlib.Core.List.{List, [], ◌∷◌}
use lib.ListN.{length}
use Rattle.model.specs.declared.Prices.{Prices}
use Rattle.model.specs.Lists.{change}
use Rattle.model.specs.Plan.{Plan, Route, route_of}
use Rattle.delivery.specs.Costs.{table_price, table_driving}

module _ (t : List ℕ) (p : Prices) where
  from-change : (j k : ℕ) (f : Route → Route) (P : Plan) → k < length P
      → table_driving t p j (change k f P) + table_price t p (j + k) (route_of P k) ≡ table_driving t p j P + table_price t p (j + k) (f (route_of P k))
  unfolding table_driving
  from-change j k f [] h = absurd (omega arith)
  from-change j zero f (r ∷ P) h = rw add-zero (omega arith)
  from-change j (suc k) f (r ∷ P) h = rw (add-suc, ← suc-add) (omega (arith, from-change (suc j) k f P (le_of_suc-le-suc h)))

  -- one route changed
  pub table-change : (k : ℕ) (f : Route → Route) (P : Plan) → k < length P
      → table_driving t p 0 (change k f P) + table_price t p k (route_of P k) ≡ table_driving t p 0 P + table_price t p k (f (route_of P k))
  table-change k f P h = rw zero-add at (from-change 0 k f P h)

  from-route : (j k : ℕ) (P : Plan) → k < length P → table_price t p (j + k) (route_of P k) ≤ table_driving t p j P
  unfolding table_driving
  from-route j k [] h = absurd (omega arith)
  from-route j zero (r ∷ P) h = rw add-zero (omega arith)
  from-route j (suc k) (r ∷ P) h = rw (add-suc, ← suc-add) (omega (arith, from-route (suc j) k P (le_of_suc-le-suc h)))

  -- one route costs no more than all
  pub route-le : (k : ℕ) (P : Plan) → k < length P → table_price t p k (route_of P k) ≤ table_driving t p 0 P
  route-le k P h = rw zero-add at (from-route 0 k P h)
