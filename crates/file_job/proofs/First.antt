-- The first line: five numbers, M, and a line of two numbers.
use mathlib.Core.Path.{◌≡◌, refl}
use Prim.Native.Nat.{ℕ, zero, suc, ◌+◌, ◌*◌, ◌<◌}
use native.Mathlib.Nat.{add-zero}
use native.Mathlib.Omega.{arith}
use mathlib.Core.List.{List, [], ◌∷◌, ◌++◌, append_assoc}
use lib.ListN.{length, get_or}
use Rattle.model.specs.File.{columns, fields, line, NoneOver, Stands}
use Rattle.model.proofs.Columns.{columns-length}
use Rattle.model.proofs.Pieces.{join-at, part_at, none-over-nil, none-over-cons, fitting, fields-length}
use Rattle.std.proofs.Common.{Option, Some, None}
use Rattle.file_columns.specs.Field.{FieldAt, NumberAt}
use Rattle.file_job.specs.declared.FirstNumbers.{FirstNumbers}
use Rattle.file_lines.specs.Standing.{FieldsAt, LineAt}
use Rattle.file_job.specs.Reading.{first_list, InRange, FirstAt}
use Rattle.file_lines.proofs.Checks.{line-start, line-end}
use Rattle.file_lines.proofs.Known.{fields-known}

-- the numbers of the first five fields, and those of the last two
abbrev pub first_five : FirstNumbers → List ℕ
first_five f = f.vehicles ∷ f.stops ∷ f.locations ∷ f.linear ∷ f.quadratic ∷ []

abbrev pub last_two : FirstNumbers → List ℕ
last_two f = f.smoothing ∷ f.limit ∷ []

first-split : (f : FirstNumbers) → line 14 (first_list f) ≡ fields 14 (first_five f) ++ (columns 14 f.missed ++ line 14 (last_two f))
unfolding line fields
first-split f = simp append_assoc

module _ (f : FirstNumbers) (r : InRange f) where
  five-small : NoneOver (first_five f)
  five-small =
      none-over-cons r.vehicles
      (none-over-cons r.stops
      (none-over-cons r.locations
      (none-over-cons r.linear
      (none-over-cons r.quadratic none-over-nil))))

  two-small : NoneOver (last_two f)
  two-small = none-over-cons r.smoothing (none-over-cons r.limit none-over-nil)

  -- where the parts of the line stand
  first-parts : (bytes : List ℕ) (at : ℕ) → Stands bytes at (line 14 (first_list f))
      → FieldsAt bytes at 5 × Stands bytes (at + 70) (columns 14 f.missed) × LineAt bytes (at + 84) 2
  first-parts bytes at h =
      let rest = columns 14 f.missed ++ line 14 (last_two f) in
      let a = part_at bytes at (fields 14 (first_five f)) rest (fields-length (first_five f) (fitting five-small)) (rw first-split at h) in
      let b = part_at bytes (at + 70) (columns 14 f.missed) (line 14 (last_two f)) (columns-length 13 f.missed r.missed) a.1 in
      let e : at + 70 + 14 ≡ at + 84 = omega arith in (
        record { numbers = first_five f; count = refl; small = five-small; stand = a.0 },
        b.0,
        record { numbers = last_two f; count = refl; small = two-small; stand = rw e at b.1 },
      )

module _ (bytes : List ℕ) (at : ℕ) where
  pub no-first-room : length bytes < at + 113 → FirstAt bytes at None
  no-first-room short f r s =
      let p = first-parts f r bytes at s in
      omega (arith, (line-end bytes (at + 84) 2 p.2).0)

  pub no-first-five : (FieldsAt bytes at 5 → ⊥) → FirstAt bytes at None
  no-first-five none f r s = none (first-parts f r bytes at s).0

  pub no-first-missed : (g : Option ℕ) → FieldAt bytes (at + 70) g → g ≡ None → FirstAt bytes at None
  no-first-missed g read e f r s =
      let nothing : FieldAt bytes (at + 70) None = rw e at read in
      nothing f.missed r.missed (first-parts f r bytes at s).1

  pub no-first-two : (LineAt bytes (at + 84) 2 → ⊥) → FirstAt bytes at None
  no-first-two none f r s = none (first-parts f r bytes at s).2

five : (P : ℕ → Type 0) → P 0 → P 1 → P 2 → P 3 → P 4 → (i : ℕ) → i < 5 → P i
five P a b c d e zero l = a
five P a b c d e (suc zero) l = b
five P a b c d e (suc (suc zero)) l = c
five P a b c d e (suc (suc (suc zero))) l = d
five P a b c d e (suc (suc (suc (suc zero)))) l = e
five P a b c d e (suc (suc (suc (suc (suc i))))) l = absurd (omega arith)

two : (P : ℕ → Type 0) → P 0 → P 1 → (i : ℕ) → i < 2 → P i
two P a b zero l = a
two P a b (suc zero) l = b
two P a b (suc (suc i)) l = absurd (omega arith)

-- the whole line, of the numbers that were read from it
pub first-whole : (bytes : List ℕ) (at : ℕ) (f : FirstNumbers) (g : Option ℕ) → FieldsAt bytes at 5
    → FieldAt bytes (at + 70) g → g ≡ Some f.missed → LineAt bytes (at + 84) 2
    → NumberAt bytes at f.vehicles → NumberAt bytes (at + 14) f.stops → NumberAt bytes (at + 28) f.locations
    → NumberAt bytes (at + 42) f.linear → NumberAt bytes (at + 56) f.quadratic
    → NumberAt bytes (at + 84) f.smoothing → NumberAt bytes (at + 98) f.limit
    → FirstAt bytes at (Some f)
first-whole bytes at f g h read e k n0 n1 n2 n3 n4 n6 n7 =
    let there : FieldAt bytes (at + 70) (Some f.missed) = rw e at read in
    let p : at + 84 + 14 ≡ at + 98 = omega arith in
    let q : at + 70 + 14 ≡ at + 84 = omega arith in
    let a : h.numbers ≡ first_five f =
    fields-known bytes at h.numbers (first_five f) h.count h.small h.stand
    (five (λ i. NumberAt bytes (at + 14 * i) (get_or (first_five f) i 0)) (rw add-zero n0) n1 n2 n3 n4) in
    let b : k.numbers ≡ last_two f =
    fields-known bytes (at + 84) k.numbers (last_two f) k.count k.small (line-start bytes (at + 84) 2 k)
    (two (λ i. NumberAt bytes (at + 84 + 14 * i) (get_or (last_two f) i 0)) (rw add-zero n6) (rw p n7)) in
    let small5 : NoneOver (first_five f) = rw a at h.small in
    let small2 : NoneOver (last_two f) = rw b at k.small in
    let stand5 : Stands bytes at (fields 14 (first_five f)) = rw a at h.stand in
    let stand2 : Stands bytes (at + 84) (line 14 (last_two f)) = rw b at k.stand in (
      record {
        vehicles = small5.small 0;
        stops = small5.small 1;
        locations = small5.small 2;
        linear = small5.small 3;
        quadratic = small5.small 4;
        missed = there.0;
        smoothing = small2.small 0;
        limit = small2.small 1;
      },
      rw first-split
          (join-at bytes at (fields 14 (first_five f)) (columns 14 f.missed ++ line 14 (last_two f)) (fields-length (first_five f) (fitting small5)) stand5
          (join-at bytes (at + 70) (columns 14 f.missed) (line 14 (last_two f)) (columns-length 13 f.missed there.0) there.1 (rw q stand2))),
    )
