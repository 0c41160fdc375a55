-- Numbers that were read from fields and lines are those that stand there.
use mathlib.Core.Path.{◌≡◌, sym}
use Prim.Native.Nat.{ℕ, zero, suc, ◌+◌, ◌*◌, ◌<◌}
use native.Mathlib.Nat.{add-zero}
use native.Mathlib.Omega.{arith}
use mathlib.Core.List.{List, [], ◌∷◌}
use lib.ListN.{length, get_or}
use lib.Seq.{ext_get_or}
use Rattle.model.specs.File.{fields, NoneOver, Stands}
use Rattle.model.proofs.Pieces.{fitting, field_at}
use Rattle.file_columns.specs.Field.{NumberAt}
use Rattle.file_lines.specs.Standing.{LineAt}
use Rattle.file_lines.proofs.Checks.{line-start}

-- numbers that were read from fields are those that stand there
pub fields-known : (bytes : List ℕ) (at : ℕ) (ms ns : List ℕ) → length ms ≡ length ns → NoneOver ms → Stands bytes at (fields 14 ms)
    → ((i : ℕ) → i < length ns → NumberAt bytes (at + 14 * i) (get_or ns i 0)) → ms ≡ ns
fields-known bytes at ms ns c small stand known =
    ext_get_or 0 ms ns c λ i l.
    sym ((known i (omega arith)).number (get_or ms i 0) (small.small i) (field_at bytes at ms (fitting small) stand i l))

module _ (bytes : List ℕ) (at : ℕ) where
  -- a line of one number that was read is the line of that number
  pub one_number : (x : ℕ) (h : LineAt bytes at 1) → NumberAt bytes at x → h.numbers ≡ x ∷ []
  one_number x h n =
      fields-known bytes at h.numbers (x ∷ []) h.count h.small (line-start bytes at 1 h) λ i l.
      one i l
    where
      one : (i : ℕ) → i < 1 → NumberAt bytes (at + 14 * i) (get_or (x ∷ []) i 0)
      one zero l = rw add-zero n
      one (suc i) l = absurd (omega arith)
