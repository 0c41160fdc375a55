-- What a table of ways says. The drained stops stand at the rows and columns 1 to 7; row 8 + q is the place before gap q, and column 8 + q
-- the place after it.
use Rattle.std.specs.Prelude.{ℕ, ◌+◌, ◌*◌, List, Float, get_or}
use Rattle.model.specs.declared.Prices.{Prices}
use Rattle.model.specs.Whole.{whole, amount}
use Rattle.rebuild_ways.specs.declared.Ways.{Ways}

-- the number at a place of a list
abbrev pub cell_at : List Float → ℕ → ℕ
cell_at xs i = amount (get_or xs i (whole 0))

-- the leg from a row to a column
abbrev pub way_at : Ways → ℕ → ℕ → ℕ
way_at ways r c = cell_at ways.legs (16 * r + c)

-- the length of gap q's route besides what fills the gap
abbrev pub own_at : Ways → ℕ → ℕ
own_at ways q = cell_at ways.own q

-- what that route costs while the gap is empty
abbrev pub vacant_at : Ways → ℕ → ℕ
vacant_at ways q = cell_at ways.vacant q

-- the prices
abbrev pub prices_at : Ways → Prices
prices_at ways = record { linear = amount ways.linear; quadratic = amount ways.quadratic; missed = amount ways.missed }

-- what the routes without a gap and the stops that were missed before cost
abbrev pub base_at : Ways → ℕ
base_at ways = amount ways.base
