-- The leg table: what every call and run looks up once, so that no later step reads the job's own table.
-- A place is a stop s, or 64 + k for vehicle k: its start where a leg begins there, its end where a leg ends there.
-- The table has 80 rows (from) of 80 columns (to).
use Rattle.std.specs.Prelude.{◌≡◌, ◌⊎◌, ℕ, ◌+◌, ◌-◌, ◌≤◌, ◌<◌, cond, List, ltb, length, get_or}
use Rattle.model.specs.declared.Prices.{Prices}
use Rattle.model.specs.Job.{Job, vehicle_count, stop_count, start_of, end_of, location_of, entry, distance}

-- the place of vehicle k's start and end
abbrev pub depot : ℕ → ℕ
depot k = 64 + k

-- the location at which a leg from place p begins
unfoldable pub leaves : Job → ℕ → ℕ
leaves J p = cond (ltb p 64) (location_of J p) (start_of J (p - 64))

-- the location at which a leg to place p ends
unfoldable pub reaches : Job → ℕ → ℕ
reaches J p = cond (ltb p 64) (location_of J p) (end_of J (p - 64))

-- a stop of the job, or one of its vehicles' own places
abbrev pub IsPlace : Job → ℕ → Type 0
IsPlace J p = (p < stop_count J) ⊎ ((64 ≤ p) × (p < 64 + vehicle_count J))

-- the metres of the leg from place p to place q
abbrev pub leg_at : List ℕ → ℕ → ℕ → ℕ
leg_at table p q = entry table 80 p q

-- a list that can be read as a leg table: long enough, and no leg over the limit
pub record LegTable (table : List ℕ) : Type 0 where
  pub long : length table ≡ 6400
  pub small : (i : ℕ) → get_or table i 0 ≤ 200000

-- the limits on the prices
pub record Affordable (p : Prices) : Type 0 where
  pub linear : p.linear ≤ 1000000
  pub quadratic : p.quadratic ≤ 16
  pub missed : p.missed ≤ 10000000000000

-- The table is the job's, which has v vehicles and n stops and these prices.
-- The functions below the public calls are given the table, v, n and the prices, and promise what they do for every job that fits them.
pub record Fits (J : Job) (table : List ℕ) (v n : ℕ) (p : Prices) : Type 0 where
  pub vehicles : vehicle_count J ≡ v
  pub stops : stop_count J ≡ n
  pub prices : J.prices ≡ p
  pub leg : (a b : ℕ) → IsPlace J a → IsPlace J b → leg_at table a b ≡ distance J (leaves J a) (reaches J b)
