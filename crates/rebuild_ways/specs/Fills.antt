-- What each function that fills a part of a table of ways writes, and that all else stays.
use Rattle.std.specs.Prelude.{◌≡◌, ℕ, ◌+◌, ◌*◌, ◌≤◌, ◌<◌, List, Float, length, get_or}
use Rattle.model.specs.Legs.{leg_at, Affordable}
use Rattle.model.specs.Cost.{price}
use Rattle.rebuild_survey.specs.declared.Gap.{Gap}
use Rattle.rebuild_survey.specs.Surveys.{head_of, rest_of}
use Rattle.rebuild_ways.specs.declared.Ways.{Ways}
use Rattle.rebuild_ways.specs.Exact.{Wholly}
use Rattle.rebuild_ways.specs.Ways.{cell_at, way_at, own_at, vacant_at, prices_at, base_at}

-- rows with all their places, of whole numbers
abbrev pub Roomy : List Float → Type 0
Roomy rows = (length rows ≡ 256) × Wholly rows

-- the number at a place of the rows
abbrev pub leg_in : List Float → ℕ → ℕ → ℕ
leg_in rows r c = cell_at rows (16 * r + c)

-- whole numbers were written, and only at places of a kind
pub record Written (of : ℕ → Type 0) (before after : List Float) : Type 0 where
  pub long : length after ≡ length before
  pub whole : Wholly after
  pub kept : (i : ℕ) → (of i → ⊥) → cell_at after i ≡ cell_at before i

-- i is one of the first m places of row r
abbrev pub InRow : ℕ → ℕ → ℕ → Type 0
InRow r m i = (c : ℕ) × (c < m) × (i ≡ 16 * r + c)

-- i is a place of one of the first m rows
abbrev pub InRows : ℕ → ℕ → Type 0
InRows m i = (r : ℕ) × (r < m) × InRow r 11 i

-- i is the place of one of the first m gaps
abbrev pub InGaps : ℕ → ℕ → Type 0
InGaps m i = i < m

-- the legs from a place to the first m ends stand in row r, and all else stays
pub record RowFilled (t : List ℕ) (from : ℕ) (ends : List ℕ) (r m : ℕ) (before after : List Float) : Type 0 where
  pub roomy : Roomy after
  pub written : Written (InRow r m) before after
  pub row : (c : ℕ) → c < m → leg_in after r c ≡ leg_at t from (get_or ends c 0)

-- the legs from the first m starts to each end stand in the first m rows, and all else stays
pub record RowsFilled (t starts ends : List ℕ) (m : ℕ) (before after : List Float) : Type 0 where
  pub roomy : Roomy after
  pub written : Written (InRows m) before after
  pub rows : (r c : ℕ) → r < m → c < 11 → leg_in after r c ≡ leg_at t (get_or starts r 0) (get_or ends c 0)

-- what is asked to write what is known of p gaps: their routes are short enough for an exact price
pub record GapsFillable (gaps : List Gap) (p : ℕ) (ways : Ways) : Type 0 where
  pub affordable : Affordable (prices_at ways)
  pub few : p ≤ 3
  pub short : (q : ℕ) → q < p → head_of gaps q + rest_of gaps q ≤ 13000000
  pub leg : (q : ℕ) → q < p → way_at ways (8 + q) (8 + q) ≤ 200000

-- what is known of the first m gaps is written, and all else stays: the other gaps, the legs, the prices and the base
pub record GapsFilled (gaps : List Gap) (m : ℕ) (before after : Ways) : Type 0 where
  pub written_own : Written (InGaps m) before.own after.own
  pub written_vacant : Written (InGaps m) before.vacant after.vacant
  pub own : (q : ℕ) → q < m → own_at after q ≡ head_of gaps q + rest_of gaps q
  pub vacant : (q : ℕ) → q < m
      → vacant_at after q ≡ price (prices_at before) (head_of gaps q + rest_of gaps q + way_at before (8 + q) (8 + q))
  pub legs : after.legs ≡ before.legs
  pub priced : prices_at after ≡ prices_at before
  pub rest : base_at after ≡ base_at before
