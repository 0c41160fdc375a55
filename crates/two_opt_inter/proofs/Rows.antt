-- Laws of what is written into rows, and of the places where these are cut.
use Prim.Native.Nat.{ℕ, ◌+◌, ◌≤◌}
use native.Mathlib.Omega.{arith}
use mathlib.Core.Path.{◌≡◌, sym, ap, ◌∙◌}
use mathlib.Core.Bool.{Bool}
use mathlib.Core.List.{List}
use lib.ListN.{length, take, drop, length-take}
use lib.Seq.{take_at}
use Rattle.model.specs.Plan.{Route}
use Rattle.model.specs.TwoOpt.{turned}
use Rattle.pasting.specs.Put.{put}
use Rattle.two_opt_candidates.specs.Pairs.{choice_of}
use Rattle.two_opt_candidates.specs.declared.Choice.{Choice}

-- the first m of a row are xs
pub record Front (row : List ℕ) (m : ℕ) (xs : List ℕ) : Type 0 where
  pub is : take m row ≡ xs
  pub size : m ≡ length (take m row)
  pub inside : m ≤ length row

-- what is written at the front of a row
pub front : (row after xs : List ℕ) (m : ℕ) → after ≡ put row 0 xs → m ≡ length xs → Front after m xs
front row after xs m e h =
    let f : take m after ≡ xs = rw e (take_at xs (drop (0 + length xs) row) m (sym h)) in
    let s : m ≡ length (take m after) = h ∙ ap length (sym f) in
    record { is = f; size = s; inside = omega (arith, length-take m after) }

-- what is known of a test that led there, and of what was written
pub written-turned : (row after : List ℕ) (r : Route) {t u : Bool} → t ≡ u → after ≡ put row 0 (turned u r) → after ≡ put row 0 (turned t r)
written-turned row after r e w = rw e w

-- where a candidate cuts its rows
pub choice-cuts : (code i j : ℕ) (c : Choice) → c ≡ choice_of code i j → (c.first ≤ i + 1) × (c.second ≤ j + 1)
choice-cuts code i j c e = omega (arith, ap (λ (x : Choice). x.first) e, ap (λ (x : Choice). x.second) e)
