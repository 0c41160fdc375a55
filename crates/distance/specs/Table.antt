-- What the leg table is made of.
use Rattle.std.specs.Prelude.{◌≡◌, ℕ, ◌+◌, ◌*◌, ◌/◌, ◌%◌, ◌≤◌, ◌<◌, Bool, cond, ◌&&◌, ◌||◌, List, leb, ltb, length, get_or}
use Rattle.model.specs.Job.{Job, job_of, vehicle_count, stop_count, entry, distance}
use Rattle.model.specs.Legs.{leaves, reaches, leg_at, LegTable, Fits}
use Rattle.model.specs.declared.Prices.{Prices}
use Rattle.model.specs.declared.job.Network.{Network}

-- the limits on a table of distances and its size l
pub record Square (l : ℕ) (ds : List ℕ) : Type 0 where
  pub locations : l ≤ 80
  pub square : length ds ≡ l * l

-- the limits on the lists of a job
pub record InLimits (vs ss : List ℕ) (l : ℕ) (ds : List ℕ) : Type 0 where
  pub even : length vs % 2 ≡ 0
  pub vehicles : length vs ≤ 32
  pub stops : length ss ≤ 64
  pub table : Square l ds
  pub ends : (i : ℕ) → i < length vs → get_or vs i 0 < l
  pub places : (i : ℕ) → i < length ss → get_or ss i 0 < l
  pub short : (i : ℕ) → get_or ds i 0 ≤ 200000

-- a network within them
abbrev pub Limited : Network → Type 0
Limited N = InLimits N.vehicles.now N.stops.now N.locations N.distances.now

-- whether p is a place where there are v vehicles and n stops
abbrev pub is_place : ℕ → ℕ → ℕ → Bool
is_place v n p = ltb p n || (leb 64 p && ltb p (64 + v))

-- what the leg table holds from place a to place b: the metres, and 0 where one of the two is no place of the job
unfoldable pub cell : Job → ℕ → ℕ → ℕ
cell J a b =
    cond (is_place (vehicle_count J) (stop_count J) a && is_place (vehicle_count J) (stop_count J) b) (distance J (leaves J a) (reaches J b)) 0

-- the location at which a leg from place a begins; where a is no place of the job the number of locations, which is no location
unfoldable pub start_at : Job → ℕ → ℕ
start_at J a = cond (is_place (vehicle_count J) (stop_count J) a) (leaves J a) J.locations

-- the location at which a leg to place b ends, likewise
unfoldable pub end_at : Job → ℕ → ℕ
end_at J b = cond (is_place (vehicle_count J) (stop_count J) b) (reaches J b) J.locations

-- the metres from one to the other over a table of l locations, 0 where one of the two is no location
unfoldable pub between : List ℕ → ℕ → ℕ → ℕ → ℕ
between ds l from to = cond (ltb from l && ltb to l) (entry ds l from to) 0

-- the first m numbers are where a leg to the first m places ends
abbrev pub EndsOf : Job → ℕ → List ℕ → Type 0
EndsOf J m ends = (k : ℕ) → k < m → get_or ends k 0 ≡ end_at J k

-- what filling the first m cells of the row at `first` makes of a table: what stands before the row is kept
pub record Row (ds : List ℕ) (l from : ℕ) (ends : List ℕ) (first m : ℕ) (before after : List ℕ) : Type 0 where
  pub long : length after ≡ length before
  pub kept : (k : ℕ) → k < first → get_or after k 0 ≡ get_or before k 0
  pub row : (k : ℕ) → k < m → get_or after (first + k) 0 ≡ between ds l from (get_or ends k 0)

-- The table is that of these lists, whatever the prices.
pub record LegsOf (vs ss : List ℕ) (l : ℕ) (ds table : List ℕ) : Type 0 where
  pub legs : LegTable table
  pub fits : (p : Prices) → Fits (job_of vs ss l ds p) table (length vs / 2) (length ss) p
  pub cells : (p : Prices) (a b : ℕ) → a < 80 → b < 80 → leg_at table a b ≡ cell (job_of vs ss l ds p) a b

-- The table is that of a network.
abbrev pub TableOf : Network → List ℕ → Type 0
TableOf N table = LegsOf N.vehicles.now N.stops.now N.locations N.distances.now table
