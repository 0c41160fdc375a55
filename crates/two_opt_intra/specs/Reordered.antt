-- The route that a pair on one route leaves, over a leg table.
use Rattle.std.specs.Prelude.{◌≡◌, ◌≢◌, ℕ, ◌≤◌, ◌<◌, true, cond, List, ltb, Float}
use Rattle.model.specs.Lists.{member}
use Rattle.model.specs.Whole.{whole, exact}
use Rattle.model.specs.Plan.{Route, route_of}
use Rattle.model.specs.TwoOpt.{ends_exchanged, inverted}
use Rattle.model.specs.declared.Prices.{Prices}
use Rattle.distance.specs.Ways.{Drivable}
use Rattle.delivery.specs.Costs.{table_price}
use Rattle.solution.specs.declared.plan.Plan.{Plan}
use Rattle.solution.specs.Held.{routes}

-- the cheaper of two routes, the first where they cost the same
abbrev pub cheaper : List ℕ → Prices → ℕ → Route → Route → Route
cheaper t p k a b = cond (ltb (table_price t p k b) (table_price t p k a)) b a

-- the first of the cheapest of the two new forms of a route, for the stops at i and j, and the route itself
unfoldable pub reordered : List ℕ → Prices → ℕ → ℕ → ℕ → Route → Route
reordered t p k i j r = cheaper t p k (cheaper t p k (ends_exchanged i j r) (inverted i j r)) r

-- a route of vehicle k that can be weighed
pub record Weighable (k : ℕ) (r : Route) : Type 0 where
  pub vehicle : k < 16
  pub route : Drivable r

-- c is what the route costs
pub record Weighs (t : List ℕ) (p : Prices) (k : ℕ) (r : Route) (c : Float) : Type 0 where
  pub small : table_price t p k r ≤ exact
  pub is : c ≡ whole (table_price t p k r)

-- s and u are different stops of route k
pub record OneRoute (p : Plan) (k s u : ℕ) : Type 0 where
  pub vehicle : k < p.v
  pub first : member s (route_of (routes p) k) ≡ true
  pub second : member u (route_of (routes p) k) ≡ true
  pub apart : s ≢ u
