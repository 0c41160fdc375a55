-- Fields and lines that are checked one after another.
use mathlib.Core.Path.{◌≡◌, refl, sym, ◌∙◌, ap}
use Prim.Native.Nat.{ℕ, zero, suc, ◌+◌, ◌*◌, ◌^◌, ◌≤◌, ◌<◌}
use native.Mathlib.Nat.{mul-le-mul_right}
use native.Mathlib.Omega.{arith}
use mathlib.Core.Bool.{Bool, true, false, not}
use mathlib.Core.List.{List, [], ◌∷◌, ◌++◌}
use borrow.Author.Tests.{not-true, not-false, eqb-true, eq-eqb}
use lib.ListN.{length, get_or, take, drop, length-append, length-drop}
use lib.Seq.{length-take-le}
use Rattle.model.specs.File.{line_feed, columns, fields, line, lines, largest_number, Stands}
use lib.Dec.{eqb}
use Rattle.model.proofs.Columns.{tested, columns-length}
use Rattle.model.proofs.Pieces.{stands-within, join-at, part_at, byte-stands, stands-byte, none-over-nil, none-over-cons, none-over-append, none-over-take, none-over-drop, fitting, fields-length, fields-one, fields-append, field_at, lines-length, lines_snoc, line_at}
use Rattle.std.proofs.Common.{Option, Some, None}
use Rattle.file_columns.specs.Field.{FieldAt}
use Rattle.file_columns.proofs.Numbers.{only}
use Rattle.file_lines.specs.Standing.{Says, FieldsAt, LineAt, LinesAt}

-- what a check has said that did not fail, and one that did
pub said : {P : Type 0} (b : Bool) → not b ≡ false → Says b P → P
said b e s = rw (not-false b e) at s

pub denied : {P : Type 0} (b : Bool) → not b ≡ true → Says b P → P → ⊥
denied b e s = rw (not-true b e) at s

module _ (bytes : List ℕ) where
  -- ---- fields

  pub fields-none : (at : ℕ) → FieldsAt bytes at 0
  unfolding fields
  fields-none at = record { numbers = []; count = refl; small = none-over-nil; stand = refl }

  pub fields-more : (at i next n : ℕ) (f : Option ℕ) → next ≡ at + 14 * i → FieldsAt bytes at i → FieldAt bytes next f → f ≡ Some n
      → n ≤ largest_number → FieldsAt bytes at (i + 1)
  fields-more at i next n f p h g e l =
      let there : FieldAt bytes next (Some n) = rw e at g in
      let w : length (fields 14 h.numbers) ≡ 14 * length h.numbers = fields-length h.numbers (fitting h.small) in
      let q : at + 14 * length h.numbers ≡ next = omega (arith, h.count) in
      record {
        numbers = h.numbers ++ (n ∷ []);
        count = rw length-append (omega (arith, h.count));
        small = none-over-append h.small (none-over-cons l none-over-nil);
        stand = rw fields-append (join-at bytes at (fields 14 h.numbers) (fields 14 (n ∷ [])) w h.stand (rw (q, fields-one) there.1));
      }

  -- a field that was read ends where the bytes end, or before
  pub field-within : (at n : ℕ) (f : Option ℕ) → FieldAt bytes at f → f ≡ Some n → at + 14 ≤ length bytes
  field-within at n f g e =
      let there : FieldAt bytes at (Some n) = rw e at g in
      let w : length (columns 14 n) ≡ 14 = columns-length 13 n there.0 in
      omega (arith, stands-within bytes at (columns 14 n) (omega arith) there.1)

  -- one field that is bad, or too large, and there are not so many
  pub fields-bad : (at i k next : ℕ) (f : Option ℕ) → next ≡ at + 14 * i → i < k → FieldAt bytes next f → f ≡ None → FieldsAt bytes at k → ⊥
  fields-bad at i k next f p l g e h =
      let nothing : FieldAt bytes next None = rw e at g in
      let fit = fitting h.small in
      nothing (get_or h.numbers i 0) (fit.fits i) (rw p (field_at bytes at h.numbers fit h.stand i (omega (arith, h.count))))

  pub fields-large : (at i k next n : ℕ) (f : Option ℕ) → next ≡ at + 14 * i → i < k → FieldAt bytes next f → f ≡ Some n → largest_number < n
      → FieldsAt bytes at k → ⊥
  fields-large at i k next n f p l g e over h =
      let m = get_or h.numbers i 0 in
      omega (
        arith,
        h.small.small i,
        only bytes next f g n m e (h.small.small i) (rw p (field_at bytes at h.numbers (fitting h.small) h.stand i (omega (arith, h.count)))),
      )

  -- the end of some fields is a machine number
  pub fields-end : (at k : ℕ) → at < 2 ^ 64 → length bytes < 2 ^ 64 → FieldsAt bytes at k → at + 14 * k < 2 ^ 64
  fields-end at zero a b h = omega arith
  fields-end at (suc k) a b h =
      let w : length (fields 14 h.numbers) ≡ 14 * length h.numbers = fields-length h.numbers (fitting h.small) in
      omega (arith, h.count, stands-within bytes at (fields 14 h.numbers) (omega (arith, h.count)) h.stand)

  -- ---- a line

  pub line-whole : (at k : ℕ) → FieldsAt bytes at k → at + 14 * k < length bytes → get_or bytes (at + 14 * k) 0 ≡ line_feed → LineAt bytes at k
  unfolding line
  line-whole at k h l e =
      let w : length (fields 14 h.numbers) ≡ 14 * k = fields-length h.numbers (fitting h.small) ∙ ap (λ n. 14 * n) h.count in
      record {
        numbers = h.numbers;
        count = h.count;
        small = h.small;
        stand = join-at bytes at (fields 14 h.numbers) (line_feed ∷ []) w h.stand (byte-stands bytes (at + 14 * k) line_feed l e);
      }

  -- a line is its fields and a line feed
  line-parts : (at k : ℕ) (h : LineAt bytes at k) → Stands bytes at (fields 14 h.numbers) × Stands bytes (at + 14 * k) (line_feed ∷ [])
  unfolding line
  line-parts at k h =
      part_at bytes at (fields 14 h.numbers) (line_feed ∷ [])
      (fields-length h.numbers (fitting h.small) ∙ ap (λ n. 14 * n) h.count) h.stand

  pub line-start : (at k : ℕ) (h : LineAt bytes at k) → Stands bytes at (fields 14 h.numbers)
  line-start at k h = (line-parts at k h).0

  pub line-fields : (at k : ℕ) → LineAt bytes at k → FieldsAt bytes at k
  line-fields at k h = record { numbers = h.numbers; count = h.count; small = h.small; stand = line-start at k h }

  pub line-end : (at k : ℕ) → LineAt bytes at k → (at + 14 * k < length bytes) × (get_or bytes (at + 14 * k) 0 ≡ line_feed)
  line-end at k h = stands-byte bytes (at + 14 * k) line_feed (line-parts at k h).1

  -- what is said of a line, once its fields stand there, by the byte after them
  pub line-told : (at k b : ℕ) → FieldsAt bytes at k → at + 14 * k < length bytes → get_or bytes (at + 14 * k) 0 ≡ b
      → Says (eqb b line_feed) (LineAt bytes at k)
  line-told at k b h l e =
      tested (eqb b line_feed)
      (λ t. rw t (line-whole at k h l (e ∙ eqb-true b line_feed t)))
      (λ f. rw f (λ line.
      let t : true ≡ false = sym (eq-eqb b line_feed (sym e ∙ (line-end at k line).1)) ∙ f in
      let z : ◌≡◌ {A = ℕ} 0 1 = cc in
      absurd (omega arith)))

  -- ---- lines

  pub lines_none : (at k : ℕ) → LinesAt bytes at 0 k
  unfolding lines
  lines_none at k = record { numbers = []; count = omega arith; small = none-over-nil; stand = refl }

  pub lines_more : (at i k next : ℕ) → next ≡ at + i * (14 * k + 1) → LinesAt bytes at i k → LineAt bytes next k → LinesAt bytes at (i + 1) k
  lines_more at i k next p h g =
      let w : length (lines i k h.numbers) ≡ i * (14 * k + 1) =
      lines-length i k h.numbers (fitting h.small) (omega (arith, h.count)) in
      record {
        numbers = h.numbers ++ g.numbers;
        count = rw length-append (omega (arith, h.count, g.count));
        small = none-over-append h.small g.small;
        stand = rw (lines_snoc i k h.numbers g.numbers h.count g.count)
            (join-at bytes at (lines i k h.numbers) (line 14 g.numbers) w h.stand (rw p at g.stand));
      }

  -- one line that is not there, and there are not so many
  pub lines-bad : (at i m k next : ℕ) → next ≡ at + i * (14 * k + 1) → i < m → (LineAt bytes next k → ⊥) → LinesAt bytes at m k → ⊥
  lines-bad at i m k next p l none h =
      let row = take k (drop (i * k) h.numbers) in
      none record {
        numbers = row;
        count = length-take-le k (drop (i * k) h.numbers)
            (omega (arith, h.count, length-drop (i * k) h.numbers, mul-le-mul_right k l));
        small = none-over-take k (none-over-drop (i * k) h.small);
        stand = rw p (line_at bytes at m k h.numbers (fitting h.small) (omega (arith, h.count)) h.stand i l);
      }

  -- the end of some lines is a machine number
  pub lines_end : (at m k : ℕ) → at < 2 ^ 64 → length bytes < 2 ^ 64 → LinesAt bytes at m k → at + m * (14 * k + 1) < 2 ^ 64
  lines_end at zero k a b h = omega arith
  lines_end at (suc m) k a b h =
      let w : length (lines (suc m) k h.numbers) ≡ suc m * (14 * k + 1) =
      lines-length (suc m) k h.numbers (fitting h.small) (omega (arith, h.count)) in
      omega (arith, stands-within bytes at (lines (suc m) k h.numbers) (omega arith) h.stand)
