-- Laws of a pair on one route.
use mathlib.Core.Path.{◌≡◌, ap, sym, ◌∙◌}
use mathlib.Core.List.{List, ◌++◌, reverse, append_assoc}
use Prim.Native.Nat.{ℕ, ◌+◌, ◌-◌}
use native.Mathlib.Numerals.{add-one}
use native.Mathlib.Omega.{arith}
use lib.ListN.{length, take, drop, length-append, length-reverse}
use Rattle.model.specs.Lists.{part}
use Rattle.model.specs.TwoOpt.{ends_exchanged, inverted}
use Rattle.pasting.specs.Put.{put}
use Rattle.model.proofs.Lists.{part_end}
use Rattle.pasting.proofs.Put.{put-put}

-- three lists written one after another
three : (d d₁ d₂ d₃ x y z : List ℕ) (a b : ℕ) → a ≡ 0 + length x → d₁ ≡ put d 0 x → b ≡ a + length y → d₂ ≡ put d₁ a y → d₃ ≡ put d₂ b z → d₃ ≡ put d 0 (x ++ (y ++ z))
three d d₁ d₂ d₃ x y z a b ea e₁ eb e₂ e₃ =
    let two : d₂ ≡ put d 0 (x ++ y) = e₂ ∙ rw (e₁, ea) (put-put d x y 0 (omega arith)) in
    let at : b ≡ 0 + length (x ++ y) = omega (arith, length-append x y) in
    e₃ ∙ rw (two, at) (put-put d (x ++ y) z 0 (omega arith)) ∙ ap (put d 0) (append_assoc x y z)

module _ (d d₁ d₂ d₃ r : List ℕ) (i j a b : ℕ) where
  -- the first candidate, written in three parts of the route r
  pub ends-written : a ≡ 0 + length (take (length r - j) (drop j r)) → d₁ ≡ put d 0 (reverse (take (length r - j) (drop j r)))
      → b ≡ a + length (take (j - (i + 1)) (drop (i + 1) r)) → d₂ ≡ put d₁ a (take (j - (i + 1)) (drop (i + 1) r))
      → d₃ ≡ put d₂ b (reverse (take (i + 1) r)) → d₃ ≡ put d 0 (ends_exchanged i j r)
  ends-written ea e₁ eb e₂ e₃ =
      three d d₁ d₂ d₃ (reverse (drop j r)) (part (i + 1) j r) (reverse (take (i + 1) r)) a b
      (ea ∙ ap (λ (x : List ℕ). 0 + length x) (part_end j r) ∙ ap (λ (k : ℕ). 0 + k) (sym (length-reverse (drop j r))))
      (e₁ ∙ ap (λ (x : List ℕ). put d 0 (reverse x)) (part_end j r))
      eb
      e₂
      e₃
      ∙ ap (λ (k : ℕ). put d 0 (reverse (drop j r) ++ (part k j r ++ reverse (take k r)))) (add-one i)

  -- the second, the inversion
  pub inverted-written : a ≡ 0 + length (take (i + 1) r) → d₁ ≡ put d 0 (take (i + 1) r)
      → b ≡ a + length (take (j - (i + 1)) (drop (i + 1) r)) → d₂ ≡ put d₁ a (reverse (take (j - (i + 1)) (drop (i + 1) r)))
      → d₃ ≡ put d₂ b (take (length r - j) (drop j r)) → d₃ ≡ put d 0 (inverted i j r)
  inverted-written ea e₁ eb e₂ e₃ =
      three d d₁ d₂ d₃ (take (i + 1) r) (reverse (part (i + 1) j r)) (drop j r) a b
      ea
      e₁
      (eb ∙ ap (λ (k : ℕ). a + k) (sym (length-reverse (part (i + 1) j r))))
      e₂
      (e₃ ∙ ap (put d₂ b) (part_end j r))
      ∙ ap (λ (k : ℕ). put d 0 (take k r ++ (reverse (part k j r) ++ drop j r))) (add-one i)
