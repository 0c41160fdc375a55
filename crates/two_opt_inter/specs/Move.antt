-- What is asked of a plan and a pair of stops.
use Rattle.std.specs.Prelude.{◌≡◌, ◌≢◌, ℕ, ◌+◌, ◌<◌, Bool, true, cond, ◌++◌, length, take, drop}
use Rattle.model.specs.Lists.{member, count}
use Rattle.model.specs.Plan.{Route, route_of}
use Rattle.solution.specs.declared.plan.Plan.{Plan}
use Rattle.solution.specs.Held.{routes}

-- two routes of a plan
pub record TwoRoutes (p : Plan) (a b : ℕ) : Type 0 where
  pub first : a < p.v
  pub second : b < p.v
  pub apart : a ≢ b

-- stop s is on route a, and stop t on route b, which is another
pub record OnTwoRoutes (p : Plan) (a s b t : ℕ) : Type 0 where
  pub vehicles : TwoRoutes p a b
  pub first : member s (route_of (routes p) a) ≡ true
  pub second : member t (route_of (routes p) b) ≡ true

-- two rows to make new routes a and b of: together they hold the stops of the old ones
pub record NewRows (p : Plan) (a : ℕ) (ra : Route) (i b : ℕ) (rb : Route) (j : ℕ) : Type 0 where
  pub first_at : i < length ra
  pub second_at : j < length rb
  pub same_stops : (x : ℕ) → count x ra + count x rb ≡ count x (route_of (routes p) a) + count x (route_of (routes p) b)

-- A route of a head and a tail, each of a vehicle's own row, cut at i, or of the other one, cut at j.
-- (Of the two rows and of the two rows turned about it gives both routes of model's `exchanged`.)
abbrev pub joined_route : Bool → Bool → Route → ℕ → Route → ℕ → Route
joined_route heads tails own i other j = cond heads (take i own) (take j other) ++ cond tails (drop i own) (drop j other)
