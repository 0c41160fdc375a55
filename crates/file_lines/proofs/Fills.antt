-- The numbers of lines, written one after another to the front of a list.
use mathlib.Core.Path.{◌≡◌, refl}
use Prim.Native.Nat.{ℕ, suc, ◌+◌, ◌*◌, ◌/◌, ◌≤◌, ◌<◌}
use native.Mathlib.Numerals.{add-one}
use native.Mathlib.Omega.{arith}
use mathlib.Core.List.{List, ◌++◌}
use lib.ListN.{length, get_or, take, drop, set}
use lib.Seq.{take_at, take-suc, drop-cons, append_snoc, length-take-le, set_at}
use Rattle.model.specs.File.{columns, lines, NoneOver, Stands}
use Rattle.model.proofs.Columns.{columns-length}
use Rattle.model.proofs.Pieces.{stands-within, fitting, number_at}
use Rattle.file_columns.specs.Field.{NumberAt}
use Rattle.file_lines.specs.Standing.{LinesAt, over}

-- i numbers are written
abbrev pub FilledTo : List ℕ → ℕ → ℕ → ℕ → List ℕ → List ℕ → ℕ → Type 0
FilledTo bytes at m k old new i =
    (ns : List ℕ) → length ns ≡ m * k → NoneOver ns → Stands bytes at (lines m k ns) → new ≡ take i ns ++ drop i old

module _ (bytes : List ℕ) (at m k : ℕ) where
  -- each number ends where the bytes end, or before
  pub number-within : (i : ℕ) → LinesAt bytes at m k → i < m * k → at + (14 * i + i / k) + 14 ≤ length bytes
  number-within i h l =
      let f = fitting h.small in
      let there = number_at bytes at m k h.numbers f (omega (arith, h.count)) h.stand i l in
      let w = columns-length 13 (get_or h.numbers i 0) (f.fits i) in
      omega (arith, w, stands-within bytes (at + (14 * i + i / k)) (columns 14 (get_or h.numbers i 0)) (omega (arith, w)) there)

  pub filled_more : (old new : List ℕ) (i x : ℕ) → m * k ≤ length old → i < m * k → FilledTo bytes at m k old new i
      → NumberAt bytes (at + (14 * i + i / k)) x → FilledTo bytes at m k old (set new i x) (i + 1)
  filled_more old new i x room l f n ns c o s =
      let e : x ≡ get_or ns i 0 = n.number (get_or ns i 0) (o.small i) (number_at bytes at m k ns (fitting o) (omega arith) s i l) in
      let w : length (take i ns) ≡ i = length-take-le i ns (omega arith) in
      rw (add-one, f ns c o s, drop-cons old i 0 (omega arith), set_at (take i ns) (get_or old i 0) (drop (suc i) old) x i w, e, take-suc ns i 0 (omega arith), append_snoc)

-- a list laid over another is its front
pub over-front : (xs ys : List ℕ) → take (length xs) (over xs ys) ≡ xs
over-front xs ys = take_at xs (drop (length xs) ys) (length xs) refl
