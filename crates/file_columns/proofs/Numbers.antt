-- What is known of the number in a field, once the field is read.
use mathlib.Core.Path.{◌≡◌, refl}
use Prim.Native.Nat.{ℕ, ◌^◌, ◌≤◌, ◌<◌}
use native.Mathlib.Omega.{arith}
use mathlib.Core.List.{List}
use Rattle.std.proofs.Common.{Option, Some, None, Result, Ok, Err, ◌∙◌, unwrap_or}
use Rattle.std.specs.Result.{OkIff, result_unwrap_or}
use Rattle.model.specs.File.{columns, largest_number, Stands}
use Rattle.model.proofs.Pieces.{same-field}
use Rattle.file_columns.specs.Field.{FieldAt, NumberAt}

module _ (bytes : List ℕ) (at : ℕ) (f : Option ℕ) (read : FieldAt bytes at f) where
  -- the number that was read is the only one there
  pub only : (m n : ℕ) → f ≡ Some m → n ≤ largest_number → Stands bytes at (columns 14 n) → m ≡ n
  only m n e l s =
      let there : FieldAt bytes at (Some m) = rw e at read in
      same-field bytes at m n there.0 (omega arith) there.1 s

refused : {E : Type 0} (r : Result ℕ E) (P : Type 0) (x : ℕ) → x ≡ 0 → OkIff r P x → result_unwrap_or r 0 ≡ 0
refused (Ok z) P x e o = o.1 ∙ e
refused (Err z) P x e o = refl

-- what is read, and 0 where it is too large or nothing is
pub number_known : {E : Type 0} (bytes : List ℕ) (at : ℕ) (f : Option ℕ) (read : FieldAt bytes at f) (x : ℕ) (r : Result ℕ E) (y : ℕ)
    → x ≡ unwrap_or f 0 → OkIff r (x < 2 ^ 32) x → y ≡ result_unwrap_or r 0 → NumberAt bytes at y
number_known bytes at None read x r y e t k =
    let none : y ≡ 0 = k ∙ refused r (x < 2 ^ 32) x e t in
    record { number = λ n l s. absurd (read n (omega arith) s); none = λ _. none }
number_known bytes at (Some m) read x (Ok z) y e t k =
    let there : y ≡ m = k ∙ t.1 ∙ e in
    record { number = λ n l s. there ∙ only bytes at (Some m) read m n refl l s; none = λ nothing. absurd (nothing m (omega (arith, t.0)) read.1) }
number_known bytes at (Some m) read x (Err z) y e t k =
    record { number = λ n l s. absurd (t (omega (arith, only bytes at (Some m) read m n refl l s))); none = λ _. k }
