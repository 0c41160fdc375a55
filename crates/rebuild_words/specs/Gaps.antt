-- The regions of a rebuild, and the plan with something else in their place.
use Rattle.std.specs.Prelude.{◌≡◌, ℕ, ◌+◌, ◌≤◌, List, ◌++◌, length, take, drop}
use Rattle.model.specs.Plan.{Route}
use Rattle.model.specs.declared.Region.{Region}
use Rattle.model.specs.Region.{Stretches}
use Rattle.pasting.specs.Put.{put}
use Rattle.solution.specs.declared.plan.Plan.{Plan}
use Rattle.solution.specs.Held.{routes}

-- regions of a plan: at most three, stretches of different routes
pub record Gapped (p : Plan) (regions : List Region) : Type 0 where
  pub few : length regions ≤ 3
  pub stretches : Stretches (routes p) regions

-- what stands past the end of a list of regions
abbrev pub no_region : Region
no_region = record { vehicle = 0; from = 0; to = 0 }

-- the stretch that a region says lies within a route
abbrev pub Within : Region → Route → Type 0
Within g route = (g.from ≤ g.to) × (g.to ≤ length route)

-- what a route becomes: the stops x in the place of a region
abbrev pub refilled : Region → List ℕ → Route → Route
refilled g x route = take g.from route ++ (x ++ drop g.to route)

-- xs was pasted into `old` from `at` on, up to `end`
pub record Pasted (old : List ℕ) (at : ℕ) (xs new : List ℕ) (end : ℕ) : Type 0 where
  pub ends : end ≡ at + length xs
  pub holds : new ≡ put old at xs
