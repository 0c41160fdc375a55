-- The test that no stop stands twice, by the set of those that were seen.
use Prim.Native.Nat.{ℕ, ◌+◌, ◌<◌}
use native.Mathlib.Nat.{zero-div}
use mathlib.Core.Path.{◌≡◌, refl, sym}
use mathlib.Core.Logic.{◌⊎◌, inl, inr, ◌≢◌}
use mathlib.Core.Bool.{Bool, true, false, ◌&&◌, not}
use mathlib.Core.List.{List, [], ◌∷◌}
use lib.Dec.{eqb}
use lib.ListN.{length, get_or, drop}
use borrow.Author.Tests.{lt-ltb}
use Rattle.model.specs.Lists.{member, all_below, all_once}
use Rattle.model.specs.StopSet.{contains, including}
use Rattle.model.proofs.Lists.{tested}
use Rattle.stop_set.proofs.Digits.{bit-including-same, bit-including-other}
use Rattle.solution.proofs.Walks.{from-here}

-- none of xs is in the set
abbrev pub unseen : ℕ → List ℕ → Bool
unseen set [] = true
unseen set (x ∷ xs) = not (contains x set) && unseen set xs

-- what is left to show of the stops that follow those in the set
abbrev pub good : ℕ → ℕ → List ℕ → Bool
good n set xs = all_below n xs && (unseen set xs && all_once xs)

none_seen : (xs : List ℕ) → unseen 0 xs ≡ true
none_seen [] = refl
none_seen (x ∷ xs) = rw zero-div (none_seen xs)

-- at first none has been seen
pub good_start : (n : ℕ) (xs : List ℕ) → (all_below n xs && all_once xs) ≡ good n 0 xs
good_start n xs = rw (none_seen xs)

and-false : (a : Bool) → (a && false) ≡ false
and-false true = refl
and-false false = refl

-- one stop more is in the set
seen_more : (x set : ℕ) (xs : List ℕ) → unseen (including x set) xs ≡ (unseen set xs && not (member x xs))
seen_more x set [] = refl
seen_more x set (y ∷ xs) = go (tested x y) (seen_more x set xs)
  where
    regroup : (a b c : Bool) → (a && (b && c)) ≡ ((a && b) && c)
    regroup true b c = refl
    regroup false b c = refl

    go : ((x ≡ y) × (eqb x y ≡ true)) ⊎ ((x ≢ y) × (eqb x y ≡ false)) → unseen (including x set) xs ≡ (unseen set xs && not (member x xs))
        → unseen (including x set) (y ∷ xs) ≡ (unseen set (y ∷ xs) && not (member x (y ∷ xs)))
    go (inl e) ih =
        let b : contains y (including x set) ≡ true = rw (← e.0, bit-including-same x set) in
        rw (b, e.1, and-false)
    go (inr e) ih =
        let b : contains y (including x set) ≡ contains y set = rw (bit-including-other y x set (λ q. e.0 (sym q))) in
        rw (b, e.1, ih) (regroup (not (contains y set)) (unseen set xs) (not (member x xs)))

module _ (n set : ℕ) (xs : List ℕ) (i : ℕ) (h : i < length xs) where
  pub good_more : (set' : ℕ) → get_or xs i 0 < n → contains (get_or xs i 0) set ≡ false → set' ≡ including (get_or xs i 0) set
      → good n set (drop i xs) ≡ good n set' (drop (i + 1) xs)
  good_more set' k e e' =
      rw (from-here xs i h, lt-ltb (get_or xs i 0) n k, e, e', seen_more (get_or xs i 0) set (drop (i + 1) xs))
      (same_tests (all_below n (drop (i + 1) xs)) (unseen set (drop (i + 1) xs)) (not (member (get_or xs i 0) (drop (i + 1) xs))) (all_once (drop (i + 1) xs)))
    where
      same_tests : (a b c d : Bool) → (a && (b && (c && d))) ≡ (a && ((b && c) && d))
      same_tests a true c d = refl
      same_tests a false c d = refl
