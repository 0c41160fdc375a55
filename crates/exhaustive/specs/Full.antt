-- The plan from which all arrangements are reached: every stop on the first vehicle, and every route a region from end to end.
use Rattle.std.specs.Prelude.{ℕ, zero, suc, List, [], ◌∷◌, take, replicate}
use Rattle.model.specs.Lists.{up_from}
use Rattle.model.specs.Plan.{Plan}
use Rattle.model.specs.declared.Region.{Region}

-- all n stops on the first of v vehicles
abbrev pub full_plan : ℕ → ℕ → Plan
full_plan zero n = []
full_plan (suc v) n = up_from 0 n ∷ replicate v []

-- the first m stops of a vehicle
abbrev pub front : ℕ → ℕ → Region
front k m = record { vehicle = k; from = 0; to = m }

-- the regions of up to three vehicles
abbrev pub full_regions : ℕ → ℕ → List Region
full_regions v n = take v (front 0 n ∷ front 1 0 ∷ front 2 0 ∷ [])
