-- Where a stop is, and the region around it, where it is placed.
use Rattle.std.specs.Prelude.{ℕ, cond, Option, Some, None}
use Rattle.model.specs.Plan.{Plan, vehicle_of, is_placed}
use Rattle.model.specs.declared.Region.{Region}
use Rattle.model.specs.Region.{region_of}

-- the vehicle that stop s is on, or none where the plan does not place s
abbrev pub vehicle_found : Plan → ℕ → Option ℕ
vehicle_found P s = cond (is_placed s P) (Some (vehicle_of s P)) None

-- the region of so many stops around stop s, or none where the plan does not place s
abbrev pub region_found : Plan → ℕ → ℕ → Option Region
region_found P size s = cond (is_placed s P) (Some (region_of P size s)) None
