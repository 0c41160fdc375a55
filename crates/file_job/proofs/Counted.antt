-- The draws: their count, and as many lines.
use mathlib.Core.Path.{◌≡◌, refl, sym, ap}
use Prim.Native.Nat.{ℕ, ◌+◌, ◌≤◌}
use native.Mathlib.Omega.{arith}
use mathlib.Core.List.{List, [], ◌∷◌}
use lib.ListN.{length, get_or}
use Rattle.model.specs.File.{line, lines, draw_lines, NoneOver, Stands}
use Rattle.model.proofs.Pieces.{none-over-nil, none-over-cons}
use Rattle.model.proofs.Tasks.{draw-parts, draws-stand}
use Rattle.std.proofs.Common.{Some, None}
use Rattle.file_columns.specs.Field.{NumberAt}
use Rattle.file_lines.specs.Standing.{LineAt, LinesAt}
use Rattle.file_job.specs.Reading.{IsDraws, DrawsAt}
use Rattle.file_lines.proofs.Known.{one_number}

module _ (bytes : List ℕ) (at : ℕ) where
  -- what stands where draws stand
  module _ (ds : List ℕ) (d : IsDraws ds) (s : Stands bytes at (draw_lines ds)) where
    count_small : NoneOver (length ds ∷ [])
    count_small = none-over-cons (omega (arith, d.few)) none-over-nil

    parts : Stands bytes at (line 14 (length ds ∷ [])) × Stands bytes (at + 15) (lines (length ds) 1 ds)
    parts = draw-parts ds d.few bytes at s

    -- their count on a line
    draws-count : LineAt bytes at 1
    draws-count = record { numbers = length ds ∷ []; count = refl; small = count_small; stand = parts.0 }

    -- which is the number that was read
    pub draws-counted : (x : ℕ) → NumberAt bytes at x → x ≡ length ds
    unfolding draws-count
    draws-counted x n = ap (λ ns. get_or ns 0 0) (sym (one_number bytes at x draws-count n))

    draws-lines : LinesAt bytes (at + 15) (length ds) 1
    draws-lines = record { numbers = ds; count = omega arith; small = d.small; stand = parts.1 }

  pub no-count : (LineAt bytes at 1 → ⊥) → DrawsAt bytes at None
  no-count none ds d s = none (draws-count ds d s)

  pub no-draws : (x : ℕ) → NumberAt bytes at x → (LinesAt bytes (at + 15) x 1 → ⊥) → DrawsAt bytes at None
  no-draws x n none ds d s = none (rw (draws-counted ds d s x n) (draws-lines ds d s))

  pub wrong-count : (x : ℕ) → NumberAt bytes at x → (1 ≤ x → x ≤ 1024 → ⊥) → DrawsAt bytes at None
  wrong-count x n wrong ds d s =
      let e = draws-counted ds d s x n in
      wrong (omega (arith, d.some)) (omega (arith, d.few))

  pub draws-whole : (x : ℕ) → LineAt bytes at 1 → NumberAt bytes at x → 1 ≤ x → x ≤ 1024 → LinesAt bytes (at + 15) x 1
      → DrawsAt bytes at (Some x)
  draws-whole x h n some few k =
      let ds = k.numbers in
      let e : x ≡ length ds = omega (arith, k.count) in
      let l : Stands bytes at (line 14 (length ds ∷ [])) = rw (one_number bytes at x h n, e) at h.stand in (
        ds,
        sym e,
        record { some = omega arith; few = omega arith; small = k.small },
        draws-stand ds (omega arith) bytes at l (rw e at k.stand),
      )
