-- The pairs of a pass, position by position.
use Rattle.std.specs.Prelude.{ℕ, suc, List, map, drop, get_or}

-- the pairs of the i-th number of a list with each later one
abbrev pub pairs_of : ℕ → List ℕ → List (ℕ × ℕ)
pairs_of i xs = map (λ y. (get_or xs i 0, y)) (drop (suc i) xs)
