-- A list without one of its numbers, by places.
use mathlib.Core.Path.{◌≡◌, ap, ◌∙◌}
use mathlib.Core.List.{List, ◌++◌}
use Prim.Native.Nat.{ℕ, suc, ◌+◌, ◌-◌, ◌≤◌, ◌<◌}
use native.Mathlib.Omega.{arith}
use lib.ListN.{length, get_or, take, drop, get_or-append}
use lib.Seq.{length-take-le, get_or-take, get_or-drop, get_or-append-add}
use Rattle.model.specs.Lists.{without, Once}
use Rattle.model.proofs.Lists.{position-once, without-split}

-- xs without its number at i, which stands there alone
module _ (xs : List ℕ) (i j : ℕ) (o : Once xs) (h : i < length xs) where
  apart : without (get_or xs i 0) xs ≡ take i xs ++ drop (suc i) xs
  apart = without-split (get_or xs i 0) xs ∙ ap (λ (k : ℕ). take k xs ++ drop (suc k) xs) (position-once xs i o h)

  taken : length (take i xs) ≡ i
  taken = length-take-le i xs (omega arith)

  -- the numbers before it are where they were
  pub rest-before : j < i → get_or (without (get_or xs i 0) xs) j 0 ≡ get_or xs j 0
  rest-before k =
      ap (λ (ys : List ℕ). get_or ys j 0) apart
      ∙ get_or-append (take i xs) (drop (suc i) xs) 0 j (omega (arith, taken))
      ∙ get_or-take i xs j 0 k

  -- and those after it one place further to the front
  pub rest-after : i ≤ j → get_or (without (get_or xs i 0) xs) j 0 ≡ get_or xs (j + 1) 0
  rest-after k =
      let e : j ≡ length (take i xs) + (j - i) = omega (arith, taken) in
      let f : suc i + (j - i) ≡ j + 1 = omega arith in
      ap (λ (ys : List ℕ). get_or ys j 0) apart
      ∙ ap (λ (m : ℕ). get_or (take i xs ++ drop (suc i) xs) m 0) e
      ∙ get_or-append-add (take i xs) (drop (suc i) xs) (j - i) 0
      ∙ get_or-drop (suc i) xs (j - i) 0
      ∙ ap (λ (m : ℕ). get_or xs m 0) f
