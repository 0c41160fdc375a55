-- Where a stop is in a plan.
use Rattle.std.specs.Prelude.{ℕ, cond, Option, Some, None}
use Rattle.model.specs.Lists.{position}
use Rattle.model.specs.Plan.{Plan, route_of, vehicle_of, is_placed}
use Rattle.solution.specs.declared.Place.{Place}

-- the vehicle whose route has the stop and the stop's position there, or none
abbrev pub place_of : ℕ → Plan → Option Place
place_of s P =
    let k = vehicle_of s P in
    cond (is_placed s P) (Some (record { vehicle = k; position = position s (route_of P k) })) None
