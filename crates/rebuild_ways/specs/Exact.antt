-- Whole numbers that an f64 counts, as a table keeps them.
use Rattle.std.specs.Prelude.{◌≡◌, ℕ, ◌≤◌, List, Float, get_or}
use Rattle.model.specs.Whole.{exact, whole, amount}

-- c is the whole number that it amounts to
abbrev pub IsExact : Float → Type 0
IsExact c = (amount c ≤ exact) × (c ≡ whole (amount c))

-- every number of a list is whole
abbrev pub Wholly : List Float → Type 0
Wholly xs = (i : ℕ) → IsExact (get_or xs i (whole 0))
