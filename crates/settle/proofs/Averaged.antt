-- A round's average, and the rule, on floats: `average` is `mixed` on the numbers of units, and `settles` is `bar`.
use mathlib.Core.Path.{◌≡◌, refl, sym, ap, ◌∙◌, subst}
use mathlib.Core.Bool.{true, false}
use Prim.Native.Nat.{ℕ, suc, ◌+◌, ◌-◌, ◌*◌, ◌^◌, ◌≤◌, ◌<◌}
use native.Mathlib.Nat.{le_trans, le_of_eq, lt_of_le_of_lt, lt_of_not-le, one-mul, mul-le-mul_right, zero-lt-suc}
use native.Mathlib.Omega.{arith}
use lib.Dec.{T, lit≤, lit<}
use lib.Ieee.{Float, binary64, round, mul, add, div, le}
use lib.Ieee.Bits.{is_true}
use lib.Ieee.Exact.{HasValue}
use Rattle.model.specs.declared.Averages.{Averages}
use Rattle.model.specs.Whole.{whole}
use Rattle.model.specs.Settle.{average, ratio, settles}
use Rattle.settle.proofs.Laws.{weighed, late}
use Rattle.settle.proofs.Mixed.{scaled, summed, mixed, scaled-le, summed-le, mixed-le}
use Rattle.settle.proofs.Bar.{bar, bar-le}
use Rattle.settle.proofs.Values.{Has, mul-units, add-units, div-units, le-units, whole-value, is-nought, not-nought}

-- x is a * 2 ^ -1074
abbrev pub Is : Float → ℕ → Type 0
Is x a = Has binary64 x a

-- nothing overflows up to 1000 * 2 ^ 53
fine : (k x : ℕ) → k ≤ 1000 → x ≤ k * 2 ^ 1127 → x < 2 ^ (1074 + 1024)
fine k x h l = lt_of_le_of_lt (le_trans l (mul-le-mul_right (2 ^ 1127) h)) (lit< tt)

pub average-first : (c : ℕ) (x y : Float) → Is x 0 → average c x y ≡ y
average-first c x y p = weighed c x y true (is-nought binary64 x p)

average-is : (b : ℕ) (x y : Float) (a : ℕ) → 0 < a → Is x a → average (suc b) x y ≡ div binary64 (add binary64 (mul binary64 x (whole b)) y) (whole (suc b))
average-is b x y a A p =
    weighed (suc b) x y false (not-nought binary64 x a A p)
    ∙ ap (λ (k : ℕ). div binary64 (add binary64 (mul binary64 x (whole k)) y) (whole (suc b))) (less_one b)
  where
    less_one : (b : ℕ) → suc b - 1 ≡ b
    less_one b = omega arith

pub average-later : (b : ℕ) (x y : Float) (a n : ℕ) → b ≤ 999 → 0 < a → a ≤ 2 ^ 1127 → n ≤ 2 ^ 1127 → Is x a → Is y n → Is (average (suc b) x y) (mixed b a n)
average-later b x y a n B A l k p q =
    let w : b ≤ 2 ^ 53 = le_trans B (lit≤ tt) in
    let v : suc b ≤ 2 ^ 53 = le_trans (up b B) (lit≤ tt) in
    let s : Is (mul binary64 x (whole b)) (scaled b a) = mul-units binary64 x (whole b) a b 1 (zero-lt-suc 0) p (whole-value b w) (fine b (scaled b a) (down b B) (scaled-le 1127 b a n B l)) in
    let t : Is (add binary64 (mul binary64 x (whole b)) y) (summed b a n) = add-units binary64 (mul binary64 x (whole b)) y (scaled b a) n s q (fine (suc b) (summed b a n) (up b B) (summed-le 1127 b a n B l k)) in
    subst (λ (z : Float). Is z (mixed b a n)) (sym (average-is b x y a A p))
    (div-units binary64 (add binary64 (mul binary64 x (whole b)) y) (whole (suc b)) (summed b a n) (suc b) (zero-lt-suc b) t (whole-value (suc b) v)
    (fine 1 (mixed b a n) (lit≤ tt) (le_trans (mixed-le 1127 b a n B l k) (le_of_eq (sym (one-mul (2 ^ 1127)))))))
  where
    up : (b : ℕ) → b ≤ 999 → suc b ≤ 1000
    up b h = omega arith

    down : (b : ℕ) → b ≤ 999 → b ≤ 1000
    down b h = omega arith

-- ---- the rule, after ten rounds
ratio-value : HasValue ratio false 5764607523034235 (2 ^ 59)
unfolding ratio round
ratio-value = (refl, refl)

bar-is : (y : Float) (u : ℕ) → u ≤ 2 ^ 1127 → Is y u → Is (mul binary64 y ratio) (bar u)
bar-is y u h p = mul-units binary64 y ratio u 5764607523034235 (2 ^ 59) (lit< tt) p ratio-value (fine 1 (bar u) (lit≤ tt) (le_trans (bar-le 1127 u h) (le_of_eq (sym (one-mul (2 ^ 1127))))))

module _ (s : Averages) (a u r : ℕ) (p : Is s.delta a) (q : Is s.update u) (h : u ≤ 2 ^ 1127) (R : 10 ≤ r) where
  stops : a ≤ bar u → settles r s ≡ true
  stops l = late r s R ∙ is_true (le s.delta (mul binary64 s.update ratio)) (le-units binary64 s.delta (mul binary64 s.update ratio) a (bar u) p (bar-is s.update u h q) l)

  pub goes_on : settles r s ≡ false → bar u < a
  goes_on t = lt_of_not-le (λ (l : a ≤ bar u). subst T (sym (stops l) ∙ t) tt)
