-- How the arrangement of a word is compared with the best so far.
use Rattle.std.specs.Prelude.{◌≡◌, Bool, true, false, ◌&&◌, ◌||◌, ℕ, ◌+◌, ◌-◌, ◌%◌, ◌^◌, List, [], ◌∷◌, eqb, ltb, Float, length}
use Rattle.model.specs.Lists.{lower}
use Rattle.model.specs.StopSet.{stops_of}
use Rattle.model.specs.Whole.{amount, IsWhole}
use Rattle.rebuild_tables.specs.declared.frame.Frame.{Frame}
use Rattle.rebuild_tables.specs.declared.Kept.{Kept}
use Rattle.rebuild_tables.specs.Frame.{placed_count, form_of, Placeable}

-- ---- the trail: one number, which all words that were met and their order make

-- a sum modulo 2 ^ 64
abbrev pub wrapped : ℕ → ℕ → ℕ
wrapped a b = (a + b) % 2 ^ 64

-- a trail with one word more: three times the trail, and the word
unfoldable pub trail_with : ℕ → ℕ → ℕ
trail_with t w = wrapped (wrapped (wrapped t t) t) w

-- and with several, one after another
unfoldable pub trail_from : ℕ → List ℕ → ℕ
unfolding trail_with
trail_from t [] = t
trail_from t (w ∷ ws) = trail_from (trail_with t w) ws

-- ---- the choice

-- of two that cost the same: whether one that places p stops in the form x is preferred to one that places q stops in the form y
abbrev pub prefers_tie : ℕ → List ℕ → ℕ → List ℕ → Bool
prefers_tie p x q y = ltb q p || (eqb p q && lower x y)

-- whether one that costs a is preferred to one that costs b
abbrev pub prefers : ℕ → ℕ → List ℕ → ℕ → ℕ → List ℕ → Bool
prefers a p x b q y = ltb a b || (eqb a b && prefers_tie p x q y)

-- whether the arrangement of a word takes the best one's place
abbrev pub wins : Frame → Kept → ℕ → ℕ → Float → Float → Bool
wins f kept placed word cost best = prefers (amount cost) placed (form_of f word) (amount best) kept.most (form_of f kept.best)

-- what is asked to compare the arrangement of a word with the best so far
pub record Comparable (f : Frame) (kept : Kept) (word : ℕ) (cost best : Float) : Type 0 where
  pub own : Placeable f word
  pub other : Placeable f kept.best
  pub known : IsWhole cost
  pub before : IsWhole best

-- the stops that are on a route where those of a set are not
abbrev pub placed_with : Frame → ℕ → ℕ
placed_with f left = placed_count f - length (stops_of left)

-- The arrangement of a word, with the stops of a set left, was met: it is noted in the trail, and it is the best where it wins.
pub record Met (f : Frame) (left word : ℕ) (cost best : Float) (before after : Kept) (r : Float) : Type 0 where
  pub noted : after.trail ≡ trail_with before.trail word
  pub counts : after.calls ≡ before.calls
  pub taken : wins f before (placed_with f left) word cost best ≡ true
      → (after.best ≡ word) × (after.most ≡ placed_with f left) × (r ≡ cost)
  pub stays : wins f before (placed_with f left) word cost best ≡ false
      → (after.best ≡ before.best) × (after.most ≡ before.most) × (r ≡ best)
