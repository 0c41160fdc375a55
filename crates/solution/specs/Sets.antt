-- The set of the stops of a list.
use Rattle.std.specs.Prelude.{◌≡◌, ℕ, ◌<◌, List, length}
use Rattle.std.specs.Int.Count.{ones}
use Rattle.model.specs.Lists.{member, count}
use Rattle.model.specs.StopSet.{contains, stops_of}

-- The set holds the stops of xs, in which none stands twice, and no others.
pub record SetOf (xs : List ℕ) (set : ℕ) : Type 0 where
  pub has : (s : ℕ) → s < 64 → contains s set ≡ member s xs
  pub size : ones set ≡ length xs
  pub stops : (s : ℕ) → count s (stops_of set) ≡ count s xs
