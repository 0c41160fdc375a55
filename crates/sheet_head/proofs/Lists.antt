-- Lines of numbers: how many numbers stand in one.
use mathlib.Core.Path.{◌≡◌, refl, sym, ◌∙◌, ap}
use Prim.Native.Nat.{ℕ, zero, suc, ◌+◌, ◌-◌, ◌*◌, ◌%◌, ◌^◌, ◌≤◌, ◌<◌}
use native.Mathlib.Omega.{arith}
use mathlib.Core.List.{List, [], ◌∷◌, ◌++◌}
use borrow.Author.Tests.{ltb-true, ltb-false}
use lib.Dec.{ltb}
use lib.ListN.{length, get_or, drop, replicate}
use lib.Seq.{drop-cons, take_all}
use Rattle.model.specs.File.{space, line_feed, digit, digits, columns, line, lines, Stands}
use Rattle.model.proofs.Columns.{tested, by_digits, digits-small, digits_more, columns-length}
use Rattle.model.proofs.Pieces.{stands-within, fitting, field_at, lines-one, same_line}
use Rattle.file_columns.specs.Field.{FieldAt}
use Rattle.file_lines.specs.Standing.{LineAt, Fillable, Filled}
use Rattle.file_lines.proofs.Checks.{line-start, line-end}
use Rattle.std.proofs.Common.{Option, Some, None}
use Rattle.sheet_head.specs.Reading.{Listing, CountAt, ListAt, Fits, Laid}

-- ---- a field does not begin with a line feed

begins : (n : ℕ) → (d : ℕ) × (ds : List ℕ) × (digits n ≡ d ∷ ds) × (digit 0 ≤ d)
begins =
    by_digits (λ n. (d : ℕ) × (ds : List ℕ) × (digits n ≡ d ∷ ds) × (digit 0 ≤ d))
    (λ n h. (digit n, [], digits-small n h, omega arith))
    (λ n h ih. (ih.0, ih.1 ++ (digit (n % 10) ∷ []), digits_more n h ∙ ap (λ l. l ++ (digit (n % 10) ∷ [])) ih.2, ih.3))

filled-begin : (k : ℕ) (ds : List ℕ) → digit 0 ≤ get_or ds 0 0 → get_or (replicate k space ++ ds) 0 0 ≡ line_feed → ⊥
filled-begin zero ds h e = omega arith
filled-begin (suc k) ds h e = omega arith

columns-begin : (w n : ℕ) → get_or (columns w n) 0 0 ≡ line_feed → ⊥
unfolding columns
columns-begin w n e =
    let b = begins n in
    filled-begin (w - length (digits n)) (digits n) (rw b.2 b.3) e

-- a piece that stands there begins with the byte there
piece-begin : (bytes : List ℕ) (at : ℕ) (p : List ℕ) → 1 ≤ length p → Stands bytes at p → get_or p 0 0 ≡ get_or bytes at 0
piece-begin bytes at [] l h = absurd (omega arith)
piece-begin bytes at (x ∷ p) l h =
    let b : at < length bytes = omega (arith, stands-within bytes at (x ∷ p) l h) in
    sym (ap (λ bs. get_or bs 0 0) (rw (drop-cons bytes at 0 b) at h))

field-begin : (bytes : List ℕ) (at n : ℕ) → n < 10 ^ 14 → Stands bytes at (columns 14 n) → get_or bytes at 0 ≡ line_feed → ⊥
field-begin bytes at n l h e =
    columns-begin 14 n (piece-begin bytes at (columns 14 n) (omega (arith, columns-length 13 n l)) h ∙ e)

-- ---- how many numbers a line has

module _ (bytes : List ℕ) (at : ℕ) where
  abbrev pub listed : {least most : ℕ} {ns : List ℕ} → Listing bytes at least most ns → LineAt bytes at (length ns)
  listed {ns = ns} h = record { numbers = ns; count = refl; small = h.small; stand = h.stand }

  -- where a field stands the line goes on, and where none does it ends
  pub goes_on : (next i n : ℕ) (f : Option ℕ) → next ≡ at + 14 * i → FieldAt bytes next f → f ≡ Some n
      → {least most : ℕ} (ns : List ℕ) → Listing bytes at least most ns → i ≤ length ns → i + 1 ≤ length ns
  goes_on next i n f p g e ns h l =
      tested (ltb i (length ns)) (λ b. omega (arith, ltb-true i (length ns) b)) λ b.
      let same : i ≡ length ns = omega (arith, ltb-false i (length ns) b) in
      let there : FieldAt bytes next (Some n) = rw e at g in
      let q : next ≡ at + 14 * length ns = omega arith in
      absurd (field-begin bytes (at + 14 * length ns) n there.0 (rw q at there.1) (line-end bytes at (length ns) (listed h)).1)

  pub ends : (next i : ℕ) (f : Option ℕ) → next ≡ at + 14 * i → FieldAt bytes next f → f ≡ None
      → {least most : ℕ} (ns : List ℕ) → Listing bytes at least most ns → i ≤ length ns → length ns ≡ i
  ends next i f p g e ns h l =
      tested (ltb i (length ns))
      (λ b.
      let there : FieldAt bytes next None = rw e at g in
      let fit = fitting h.small in
      let k = line-start bytes at (length ns) (listed h) in
      absurd (there (get_or ns i 0) (fit.fits i) (rw p (field_at bytes at ns fit k i (ltb-true i (length ns) b)))))
      λ b. omega (arith, ltb-false i (length ns) b)

  -- two lines that stand there have the same numbers
  no-longer : {l m l' m' : ℕ} (ns ms : List ℕ) → Listing bytes at l m ns → Listing bytes at l' m' ms → length ns < length ms → ⊥
  no-longer ns ms h g b =
      let fit = fitting g.small in
      let k = line-start bytes at (length ms) (listed g) in
      field-begin bytes (at + 14 * length ns) (get_or ms (length ns) 0) (fit.fits (length ns))
      (field_at bytes at ms fit k (length ns) b) (line-end bytes at (length ns) (listed h)).1

  same_count : {l m l' m' : ℕ} (ns ms : List ℕ) → Listing bytes at l m ns → Listing bytes at l' m' ms → length ns ≡ length ms
  same_count ns ms h g =
      tested (ltb (length ns) (length ms)) (λ b. absurd (no-longer ns ms h g (ltb-true (length ns) (length ms) b))) λ b.
      tested (ltb (length ms) (length ns)) (λ d. absurd (no-longer ms ns g h (ltb-true (length ms) (length ns) d))) λ d.
      omega (arith, ltb-false (length ns) (length ms) b, ltb-false (length ms) (length ns) d)

  pub same-list : {l m l' m' : ℕ} (ns ms : List ℕ) → Listing bytes at l m ns → Listing bytes at l' m' ms → ns ≡ ms
  same-list ns ms h g = same_line bytes at ns ms (fitting h.small) (fitting g.small) (same_count ns ms h g) h.stand g.stand

-- ---- a line that was counted and checked

module _ (bytes : List ℕ) (at least most count : ℕ) (counted : CountAt bytes at most count) where
  pub too_few : count < least → ListAt bytes at least most None
  too_few l ns h =
      omega (arith, h.some, counted.count ns (record { some = omega arith; few = h.few; small = h.small; stand = h.stand }))

  pub no_line : (LineAt bytes at count → ⊥) → ListAt bytes at least most None
  no_line none ns h =
      let c = counted.count ns (record { some = omega arith; few = h.few; small = h.small; stand = h.stand }) in
      none (record { numbers = ns; count = c; small = h.small; stand = h.stand })

  module _ (there : LineAt bytes at count) where
    pub line-within : at + (14 * count + 1) ≤ length bytes
    line-within = omega (arith, (line-end bytes at count there).0)

    pub list_read : least ≤ count → ListAt bytes at least most (Some (record { count = count; end = at + (14 * count + 1) }))
    list_read l = (
      there.numbers,
      record { some = omega (arith, there.count); few = omega (arith, there.count, counted.few); small = there.small; stand = there.stand },
      sym there.count,
      ap (λ x. at + (14 * x + 1)) (sym there.count),
    )

-- ---- a line that is written

-- one line of so many numbers
one_line : (count : ℕ) (ns : List ℕ) → length ns ≡ count → lines 1 count ns ≡ line 14 ns
one_line count ns c = lines-one count ns ∙ ap (line 14) (take_all count ns (omega arith))

module _ (bytes : List ℕ) (at count : ℕ) where
  pub fillable : (list : List ℕ) → Fits bytes at count list → 1 ≤ count → Fillable bytes at 1 count list
  fillable list f l =
      let h = f.there l in
      record {
        there = record { numbers = h.numbers; count = omega (arith, h.count); small = h.small; stand = rw (one_line count h.numbers h.count) h.stand };
        room = omega (arith, f.room);
      }

  pub laid : (old new : List ℕ) → 1 ≤ count → Filled bytes at 1 count old new → Laid bytes at count old new
  laid old new l f ns c o s =
      let e : length ns ≡ 1 * count = omega arith in
      f ns e o (rw (one_line count ns c) (s l)) ∙ ap (λ x. ns ++ drop x old) (sym e)

  -- for no numbers nothing is written
  pub laid_none : (old : List ℕ) → count ≡ 0 → Laid bytes at count old old
  laid_none old z [] c o s = refl
  laid_none old z (n ∷ ns) c o s = absurd (omega arith)
