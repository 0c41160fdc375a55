-- What is read from one field of a file.
use Rattle.std.specs.Prelude.{◌≡◌, ℕ, zero, suc, ◌+◌, ◌*◌, ◌%◌, ◌^◌, ◌≤◌, ◌<◌, List, [], ◌∷◌, ◌++◌, replicate, Option, Some, None}
use Rattle.model.specs.File.{space, digit, columns, largest_number, Stands}

-- the first w columns of a field, which hold the number n before its last digit: spaces alone where n is 0
unfoldable pub lead : ℕ → ℕ → List ℕ
lead w zero = replicate w space
lead w (suc n) = columns w (suc n)

-- the last of such columns
unfoldable pub last_column : ℕ → ℕ
last_column zero = space
last_column (suc n) = digit (suc n % 10)

-- after columns that hold `value`, a byte that leads on to a number, or to none
abbrev pub Next : ℕ → ℕ → Option ℕ → Type 0
Next value byte (Some next) = (next ≤ value * 10 + 9) × ((w : ℕ) → lead (suc w) next ≡ lead w value ++ (byte ∷ []))
Next value byte None = (w next : ℕ) → lead (suc w) next ≡ lead w value ++ (byte ∷ []) → ⊥

-- the number that stands in the bytes from a position on, or that none does
abbrev pub FieldAt : List ℕ → ℕ → Option ℕ → Type 0
FieldAt bytes at (Some n) = (n < 10 ^ 14) × Stands bytes at (columns 14 n)
FieldAt bytes at None = (n : ℕ) → n < 10 ^ 14 → Stands bytes at (columns 14 n) → ⊥

-- the number that stands in a field, 0 where none up to the largest of a file does
pub record NumberAt (bytes : List ℕ) (at r : ℕ) : Type 0 where
  pub number : (n : ℕ) → n ≤ largest_number → Stands bytes at (columns 14 n) → r ≡ n
  pub none : ((n : ℕ) → n ≤ largest_number → Stands bytes at (columns 14 n) → ⊥) → r ≡ 0
