-- The places of a route as a stop is tried at them, one after another: what is asked to weigh one, which of two is the better, and the best of all.
use Rattle.std.specs.Prelude.{◌≡◌, ℕ, zero, suc, ◌+◌, ◌-◌, ◌≤◌, ◌<◌, cond, List, leb, ltb, Float, length, Option, Some, None, is_none}
use Rattle.model.specs.declared.Prices.{Prices}
use Rattle.model.specs.Whole.{whole, amount, IsWhole}
use Rattle.model.specs.Plan.{Plan, Route, route_of}
use Rattle.model.specs.Legs.{depot}
use Rattle.model.specs.Live.{put_in, placing, placings, cheapest_or}
use Rattle.distance.specs.declared.tariff.Tariff.{Tariff}
use Rattle.distance.specs.Ways.{table_legs, Drivable}
use Rattle.solution.specs.declared.Place.{Place}
use Rattle.solution.specs.declared.plan.Plan as held
use Rattle.solution.specs.Held.{routes}
use Rattle.delivery.specs.Costs.{table_price}
use Rattle.arrival.specs.declared.Candidate.{Candidate}

-- ---- one place

-- route r of vehicle k, which is d long by the leg table t, a position on it and a stop
pub record Insertable (t : List ℕ) (k : ℕ) (r : Route) (d i s : ℕ) : Type 0 where
  pub vehicle : k < 16
  pub route : Drivable r
  pub way : d ≡ table_legs t (depot k) r (depot k)
  pub place : i ≤ length r
  pub stop : s < 64

-- ---- the best so far

-- its place, or none, and its cost
abbrev pub counted : Candidate → Option Place × ℕ
counted c = (c.place, amount c.cost)

-- A place replaces the best so far where it is strictly cheaper, and no place also where both cost the same.
unfoldable pub better : Option Place × ℕ → Option Place × ℕ → Option Place × ℕ
better new best = cond (cond (is_none best.0) (leb new.1 best.1) (ltb new.1 best.1)) new best

-- what a plan costs with stop s at position i of vehicle k's route r, where it costs c without the missed stop
abbrev pub cost_with : List ℕ → Prices → ℕ → Route → ℕ → ℕ → ℕ → ℕ
cost_with t p k r c s i = c - table_price t p k r + table_price t p k (put_in i s r)

-- the best so far and the first places of a route, so many of them
unfoldable pub tried_on : List ℕ → Prices → ℕ → Route → ℕ → ℕ → ℕ → Option Place × ℕ → Option Place × ℕ
unfolding better
tried_on t p k r c s zero best = best
tried_on t p k r c s (suc i) best =
    better (Some (record { vehicle = k; position = i }), cost_with t p k r c s i) (tried_on t p k r c s i best)

-- what is asked to try all places of vehicle k's route, where the plan costs c without the missed stop and the best so far costs b
pub record Triable (t : Tariff) (p : held.Plan) (k : ℕ) (c : Float) (s : ℕ) (b : Float) : Type 0 where
  pub vehicle : k < p.v
  pub stop : s < 64
  pub left : IsWhole c
  pub small : amount c ≤ 4752000000000000
  pub own : table_price t.legs.table t.prices k (route_of (routes p) k) ≤ amount c
  pub best : IsWhole b

-- ---- the best of all

-- the plan with stop s at a place, or as it was for none
abbrev pub plan_with : ℕ → Plan → Option Place → Plan
plan_with s P None = P
plan_with s P (Some x) = placing s P x.vehicle x.position

-- there is such a place on the routes of P
pub record Among (P : Plan) (x : Place) : Type 0 where
  pub vehicle : x.vehicle < length P
  pub position : x.position ≤ length (route_of P x.vehicle)

-- b is the first of the cheapest places for stop s, or none where that is strictly cheaper
pub record Cheapest (weigh : Plan → ℕ) (s : ℕ) (P : Plan) (b : Candidate) : Type 0 where
  pub place : (x : Place) → b.place ≡ Some x → Among P x
  pub plan : plan_with s P b.place ≡ cheapest_or weigh P (placings s P)
  pub cost : b.cost ≡ whole (weigh (cheapest_or weigh P (placings s P)))
