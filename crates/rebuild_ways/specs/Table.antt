-- What a table of ways is filled with.
use Rattle.std.specs.Prelude.{◌≡◌, ℕ, ◌+◌, ◌≤◌, ◌<◌, List, Float, get_or}
use Rattle.model.specs.Whole.{amount, IsWhole}
use Rattle.model.specs.Legs.{leg_at}
use Rattle.model.specs.Cost.{price}
use Rattle.distance.specs.declared.tariff.Tariff.{Tariff}
use Rattle.rebuild_survey.specs.declared.Gap.{Gap}
use Rattle.rebuild_survey.specs.Surveys.{head_of, rest_of}
use Rattle.rebuild_ways.specs.declared.Ways.{Ways}
use Rattle.rebuild_ways.specs.Ways.{way_at, own_at, vacant_at, prices_at, base_at}

-- places of the leg table at which the rows leave, or at which the columns arrive
abbrev pub Ends : List ℕ → Type 0
Ends xs = (i : ℕ) → get_or xs i 0 < 80

-- what is asked to fill a table
pub record Fillable (starts ends : List ℕ) (gaps : List Gap) (p : ℕ) (base : Float) : Type 0 where
  pub from : Ends starts
  pub to : Ends ends
  pub few : p ≤ 3
  pub short : (q : ℕ) → q < p → head_of gaps q + rest_of gaps q ≤ 13000000
  pub known : IsWhole base

-- the table is filled: the legs from each start to each end, the gaps' routes, the prices and the base
pub record Filled (t : Tariff) (starts ends : List ℕ) (gaps : List Gap) (p : ℕ) (base : Float) (ways : Ways) : Type 0 where
  pub rows : (r c : ℕ) → r < 11 → c < 11 → way_at ways r c ≡ leg_at t.legs.table (get_or starts r 0) (get_or ends c 0)
  pub own : (q : ℕ) → q < p → own_at ways q ≡ head_of gaps q + rest_of gaps q
  pub vacant : (q : ℕ) → q < p → vacant_at ways q ≡ price t.prices (own_at ways q + way_at ways (8 + q) (8 + q))
  pub priced : prices_at ways ≡ t.prices
  pub rest : base_at ways ≡ amount base
