-- What the checks of a file ask: that so many fields or lines stand in the bytes from a position on, with any numbers up to the largest.
use Rattle.std.specs.Prelude.{◌≡◌, ℕ, ◌*◌, ◌≤◌, Bool, true, false, List, ◌++◌, length, drop}
use Rattle.model.specs.File.{fields, line, lines, NoneOver, Stands}

-- what a test says of a statement
abbrev pub Says : Bool → Type 0 → Type 0
Says true P = P
Says false P = P → ⊥

-- k numbers in fields
pub record FieldsAt (bytes : List ℕ) (at k : ℕ) : Type 0 where
  pub numbers : List ℕ
  pub count : length numbers ≡ k
  pub small : NoneOver numbers
  pub stand : Stands bytes at (fields 14 numbers)

-- a line of k numbers
pub record LineAt (bytes : List ℕ) (at k : ℕ) : Type 0 where
  pub numbers : List ℕ
  pub count : length numbers ≡ k
  pub small : NoneOver numbers
  pub stand : Stands bytes at (line 14 numbers)

-- m lines of k numbers each
pub record LinesAt (bytes : List ℕ) (at m k : ℕ) : Type 0 where
  pub numbers : List ℕ
  pub count : length numbers ≡ m * k
  pub small : NoneOver numbers
  pub stand : Stands bytes at (lines m k numbers)

-- m lines of k numbers each that a list has room for
pub record Fillable (bytes : List ℕ) (at m k : ℕ) (list : List ℕ) : Type 0 where
  pub there : LinesAt bytes at m k
  pub room : m * k ≤ length list

-- the numbers of the lines stand at the front of a list, which is unchanged after them
abbrev pub Filled : List ℕ → ℕ → ℕ → ℕ → List ℕ → List ℕ → Type 0
Filled bytes at m k old new =
    (ns : List ℕ) → length ns ≡ m * k → NoneOver ns → Stands bytes at (lines m k ns) → new ≡ ns ++ drop (m * k) old

-- a list laid over the front of another
abbrev pub over : List ℕ → List ℕ → List ℕ
over xs ys = xs ++ drop (length xs) ys
