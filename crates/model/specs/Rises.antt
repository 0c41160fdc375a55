-- Specification, 19: what is promised of roadworks. The answer is never below the true rise in cost, and fits 64 bits.
use Rattle.std.specs.Prelude.{◌≡◌, ℕ, ◌+◌, ◌^◌, ◌<◌, ◌≤◌, List, [], Ok}
use Rattle.model.specs.declared.Road.{Road}
use Rattle.model.specs.Job.{Job, vehicle_count}
use Rattle.model.specs.Plan.{Plan, Route, decode}
use Rattle.model.specs.Cost.{route_price, cost}
use Rattle.model.specs.Roads.{lengthened, ceiling, rise_of, plan_rise}
use Rattle.model.specs.Refusals.{asking, lengthening, Weigh, refusal}
use Rattle.model.specs.Calls.{road_answer}

-- what a longer road does to a plan: the plan costs on the lengthened job what it costs on the job, and the rise; and the ceiling is enough
pub record Rises (J : Job) (road : Road) (P : Plan) : Type 0 where
  -- each route, by its uses and its length
  pub route : (i : ℕ) (r : Route) → route_price (lengthened J road) i r ≡ route_price J i r + rise_of J road i r
  -- and all of them
  pub plan : cost (lengthened J road) P ≡ cost J P + plan_rise J road P
  -- the ceiling is not below the rise, so that no plan costs more than the cost and the ceiling
  pub below : plan_rise J road P ≤ ceiling J road P
  pub enough : cost (lengthened J road) P ≤ cost J P + ceiling J road P

-- of an accepted call
pub record RoadPromise (J : Job) (plan : List ℕ) (road : Road) : Type 0 where
  pub rises : Rises J road (decode (vehicle_count J) plan)
  -- what is answered is that ceiling, and it fits 64 bits
  pub answer : road_answer (lengthening J plan road) ≡ Ok (ceiling J road (decode (vehicle_count J) plan))
  pub fits : ceiling J road (decode (vehicle_count J) plan) < 2 ^ 64
  -- `weigh` takes the lengthened job with the same plan, so that the true rise is the difference of two of its answers
  pub weighed : refusal Weigh (asking (lengthened J road) plan []) ≡ 0
