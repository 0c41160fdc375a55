-- What reading into a buffer leaves.
use Rattle.std.specs.Prelude.{◌≡◌, ℕ, ◌-◌, ◌≤◌, List, length, take, drop, Result, Ok, Err}
use Rattle.std.specs.declared.io.Error.{Error}

-- the bytes before a position are as they were; after it there may be more, or a read failed
abbrev pub FilledFrom : ℕ → List ℕ → List ℕ → Result ℕ Error → Type 0
FilledFrom at old new (Ok n) = (at ≤ n) × (n ≤ length old) × (take at new ≡ take at old)
FilledFrom at old new (Err error) = take at new ≡ take at old

-- so many bytes, those from a position on, stand at the front
pub record Shifted (from : ℕ) (old new : List ℕ) (r : ℕ) : Type 0 where
  pub count : r ≡ length old - from
  pub long : length new ≡ length old
  pub front : take r new ≡ drop from old

-- the bytes from a position on stand at the front; after them there may be more, or a read failed
abbrev pub Refilled : ℕ → List ℕ → List ℕ → Result ℕ Error → Type 0
Refilled from old new (Ok n) = (length old - from ≤ n) × (n ≤ length old) × (take (length old - from) new ≡ drop from old)
Refilled from old new (Err error) = take (length old - from) new ≡ drop from old
