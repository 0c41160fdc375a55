-- What is asked of a move, and what the routes that it changes cost.
use Rattle.std.specs.Prelude.{◌≡◌, ℕ, ◌+◌, ◌≤◌, ◌<◌, cond, eqb, ℤ, length}
use Rattle.model.specs.Job.{Job}
use Rattle.model.specs.Plan.{Plan, Route, route_of}
use Rattle.model.specs.Live.{cancelled}
use Rattle.model.specs.Vans.{Held, cost_change}
use Rattle.model.specs.declared.Move.{Move}
use Rattle.distance.specs.declared.tariff.Tariff.{Tariff}
use Rattle.solution.specs.declared.plan.Plan as held
use Rattle.solution.specs.Held.{routes}
use Rattle.delivery.specs.Held.{IsJobOf}

-- what the routes of vehicles a and b cost by f, and one route where both are the same
abbrev pub pair_price : (ℕ → Route → ℕ) → Plan → ℕ → ℕ → ℕ
pair_price f P a b = f a (route_of P a) + cond (eqb a b) 0 (f b (route_of P b))

-- a stop below n, and a place of a van after the stop has been taken out
pub record Movable (p : held.Plan) (m : Move) : Type 0 where
  pub stop : m.stop < p.n
  pub van : m.van < p.v
  pub place : m.place ≤ length (route_of (cancelled m.stop (routes p)) m.van)

-- z is what the move changes in cost, for every job whose tariff it is and for every caller who holds the vans that it changes
abbrev pub Changes : Tariff → held.Plan → Move → ℤ → Type 0
Changes t p m z = (J : Job) → IsJobOf J t p → (vans : ℕ) → Held vans m (routes p) → z ≡ cost_change J vans m (routes p)
