-- Specification, 6: which stretches of which routes are drained.
use Rattle.std.specs.Prelude.{ℕ, ◌+◌, ◌-◌, ◌/◌, ◌≤◌, ◌<◌, min, cond, List, [], ◌∷◌, map, length}
use Rattle.model.specs.Lists.{In, Distinct, part, position, member, concat}
pub use Rattle.model.specs.declared.Region.{Region}
use Rattle.model.specs.Plan.{Plan, route_of, vehicle_of, is_placed}

-- the picks that are placed, and of those on one vehicle the first. `named` are the vehicles of earlier picks.
abbrev pub keep_picks : Plan → List ℕ → List ℕ → List ℕ
keep_picks P named [] = []
keep_picks P named (s ∷ ss) =
    let k = vehicle_of s P in
    cond (is_placed s P) (cond (member k named) (keep_picks P named ss) (s ∷ keep_picks P (k ∷ named) ss)) (keep_picks P named ss)

-- `size` stops around a position: from max(0, position − size / 2)
abbrev pub region_from : ℕ → ℕ → ℕ
region_from size at = at - size / 2

-- for `size` stops, clipped at the end of a route of `len` stops
abbrev pub region_to : ℕ → ℕ → ℕ → ℕ
region_to size at len = min (region_from size at + size) len

-- the region around stop s
abbrev pub region_of : Plan → ℕ → ℕ → Region
region_of P size s =
    let k = vehicle_of s P in
    let at = position s (route_of P k) in
    record { vehicle = k; from = region_from size at; to = region_to size at (length (route_of P k)) }

-- (8 − k) / p rounded down, k the number of picks drawn and p the number kept
abbrev pub region_size : ℕ → ℕ → ℕ
region_size k p = (8 - k) / p

-- a region for each pick that is kept
unfoldable pub regions : Plan → List ℕ → List Region
regions P picks = let kept = keep_picks P [] picks in map (region_of P (region_size (length picks) (length kept))) kept

-- ---- draining

-- the stops of a region
abbrev pub drained_from : Plan → Region → List ℕ
drained_from P g = part g.from g.to (route_of P g.vehicle)

-- the stops of all regions
abbrev pub drained : Plan → List Region → List ℕ
drained P gs = concat (map (drained_from P) gs)

-- ---- which regions a plan has

-- the vehicles of regions
abbrev pub vehicles_of : List Region → List ℕ
vehicles_of gs = map (λ (g : Region). g.vehicle) gs

-- a stretch of a route that the plan has
pub record Stretch (P : Plan) (g : Region) : Type 0 where
  pub known : g.vehicle < length P
  pub ordered : g.from ≤ g.to
  pub within : g.to ≤ length (route_of P g.vehicle)

-- stretches of routes of the plan, no two of one route
pub record Stretches (P : Plan) (gs : List Region) : Type 0 where
  pub apart : Distinct (vehicles_of gs)
  pub each : (g : Region) → In g gs → Stretch P g
