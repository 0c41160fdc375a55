-- What the functions that ask about a whole set answer.
use Rattle.std.specs.Prelude.{◌≡◌, ◌∷◌, ℕ, ◌<◌, length, true}
use Rattle.std.specs.Int.Count.{ones}
use Rattle.model.specs.StopSet.{contains, excluding, stops_of}

-- k is the number of the set's ones, and of its stops
pub record Counted (set k : ℕ) : Type 0 where
  pub digits : k ≡ ones set
  pub stops : k ≡ length (stops_of set)

-- s is the first of the set's stops, and the others follow
pub record First (set s : ℕ) : Type 0 where
  pub list : stops_of set ≡ s ∷ stops_of (excluding s set)
  pub small : s < 64
  pub «in» : contains s set ≡ true
