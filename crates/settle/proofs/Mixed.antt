-- The moving average on plain numbers, in units, for a weight c = b + 1: its bounds, its order, and how it falls in an idle round.
use mathlib.Core.Path.{◌≡◌, sym, ap, ◌∙◌, subst}
use Prim.Native.Nat.{ℕ, suc, ◌+◌, ◌*◌, ◌^◌, ◌≤◌, ◌<◌}
use native.Mathlib.Nat.{le_trans, le_refl, le_of_eq, mul-one, one-mul, mul_comm, mul_assoc, mul-le-mul_left, mul-le-mul_right, le_of_mul-le-mul_right, mul-suc, suc-mul, mul-add, add-le-add, pow-suc, zero-lt-suc}
use native.Mathlib.Omega.{arith}
use lib.Dec.{lit≤, lit<}
use Rattle.settle.proofs.Units.{nearly, nearly-upper, nearly-mono, nearly-ge, nearly-le}
use Rattle.settle.proofs.Decay.{share, full}

-- a * b, rounded; that and n, rounded; and that by b + 1, rounded
abbrev pub scaled : ℕ → ℕ → ℕ
scaled b a = nearly 53 (a * b) 1

abbrev pub summed : ℕ → ℕ → ℕ → ℕ
summed b a n = nearly 53 (scaled b a + n) 1

abbrev pub mixed : ℕ → ℕ → ℕ → ℕ
mixed b a n = nearly 53 (summed b a n) (suc b)

P : 0 < 53
P = lit< tt

-- the numbers up to 1000 have no more digits than the format
small : (b : ℕ) → b ≤ 1000 → b ≤ 2 ^ 53
small b h = le_trans h (lit≤ tt)

-- ---- from above: 2 ^ j bounds the average of what it bounds
module _ (j b a n : ℕ) (B : b ≤ 999) (A : a ≤ 2 ^ j) where
  pub scaled-le : scaled b a ≤ b * 2 ^ j
  scaled-le = nearly-le 53 b j (a * b) 1 P (zero-lt-suc 0) (small b (omega arith)) (le_trans (mul-le-mul_right b A) (le_of_eq (mul_comm (2 ^ j) b ∙ sym (mul-one (b * 2 ^ j)))))

  pub summed-le : n ≤ 2 ^ j → summed b a n ≤ suc b * 2 ^ j
  summed-le N =
      nearly-le 53 (suc b) j (scaled b a + n) 1 P (zero-lt-suc 0) (small (suc b) (omega arith))
      (le_trans (add-le-add scaled-le N) (le_of_eq (sym (suc-mul b (2 ^ j)) ∙ sym (mul-one (suc b * 2 ^ j)))))

  pub mixed-le : n ≤ 2 ^ j → mixed b a n ≤ 2 ^ j
  mixed-le N =
      le_trans (nearly-le 53 1 j (summed b a n) (suc b) P (zero-lt-suc b) (lit≤ tt) (le_trans (summed-le N) (le_of_eq (mul_comm (suc b) (2 ^ j) ∙ ap (λ (x : ℕ). x * suc b) (sym (one-mul (2 ^ j)))))))
      (le_of_eq (one-mul (2 ^ j)))

-- ---- from below
module _ (j b a n : ℕ) (B : b ≤ 999) (A : 2 ^ j ≤ a) where
  scaled-ge : b * 2 ^ j ≤ scaled b a
  scaled-ge = nearly-ge 53 b j (a * b) 1 P (zero-lt-suc 0) (small b (omega arith)) (le_trans (le_of_eq (mul-one (b * 2 ^ j) ∙ mul_comm b (2 ^ j))) (mul-le-mul_right b A))

  -- 2 ^ j is below the average of what it is below
  pub mixed-ge : 2 ^ j ≤ n → 2 ^ j ≤ mixed b a n
  mixed-ge N =
      let s : suc b * 2 ^ j ≤ summed b a n =
      nearly-ge 53 (suc b) j (scaled b a + n) 1 P (zero-lt-suc 0) (small (suc b) (omega arith)) (le_trans (le_of_eq (mul-one (suc b * 2 ^ j) ∙ suc-mul b (2 ^ j))) (add-le-add scaled-ge N)) in
      le_trans (le_of_eq (sym (one-mul (2 ^ j))))
      (nearly-ge 53 1 j (summed b a n) (suc b) P (zero-lt-suc b) (lit≤ tt) (le_trans (le_of_eq (ap (λ (x : ℕ). x * suc b) (one-mul (2 ^ j)) ∙ mul_comm (2 ^ j) (suc b))) s))

-- for c ≥ 2 no round leaves less than half
pub mixed-half : (j b a n : ℕ) → b ≤ 999 → 1 ≤ b → 2 ^ suc j ≤ a → 2 ^ j ≤ mixed b a n
mixed-half j b a n B C A =
    let s : b * 2 ^ suc j ≤ summed b a n =
    nearly-ge 53 b (suc j) (scaled b a + n) 1 P (zero-lt-suc 0) (small b (omega arith))
    (le_trans (le_of_eq (mul-one (b * 2 ^ suc j))) (le_trans (scaled-ge (suc j) b a n B A) (plus (scaled b a) n))) in
    le_trans (le_of_eq (sym (one-mul (2 ^ j)))) (nearly-ge 53 1 j (summed b a n) (suc b) P (zero-lt-suc b) (lit≤ tt) (le_trans halved s))
  where
    plus : (x y : ℕ) → x ≤ x + y
    plus x y = omega arith

    halved : 1 * 2 ^ j * suc b ≤ b * 2 ^ suc j
    halved =
        let e : 1 * 2 ^ j * suc b ≡ suc b * 2 ^ j = ap (λ (x : ℕ). x * suc b) (one-mul (2 ^ j)) ∙ mul_comm (2 ^ j) (suc b) in
        let g : b * 2 ^ suc j ≡ b * 2 * 2 ^ j = ap (λ (x : ℕ). b * x) (pow-suc 2 j ∙ mul_comm (2 ^ j) 2) ∙ sym (mul_assoc b 2 (2 ^ j)) in
        le_trans (le_of_eq e) (le_trans (mul-le-mul_right (2 ^ j) (twice b C)) (le_of_eq (sym g)))
      where
        twice : (x : ℕ) → 1 ≤ x → suc x ≤ x * 2
        twice x h = omega arith

-- ---- the order
one-mono : (x y : ℕ) → x ≤ y → nearly 53 x 1 ≤ nearly 53 y 1
one-mono x y h = nearly-mono 53 x 1 y 1 P (zero-lt-suc 0) (zero-lt-suc 0) (mul-le-mul_right 1 h)

pub mixed-mono : (b a a' n : ℕ) → a ≤ a' → mixed b a n ≤ mixed b a' n
mixed-mono b a a' n h =
    nearly-mono 53 (summed b a n) (suc b) (summed b a' n) (suc b) P (zero-lt-suc b) (zero-lt-suc b)
    (mul-le-mul_right (suc b) (one-mono (scaled b a + n) (scaled b a' + n) (add-le-add (one-mono (a * b) (a' * b) (mul-le-mul_right b h)) (le_refl n))))

-- for c = 1 the average is the new number, or above it, where that is q * 2 ^ j (it is the new number, but that is not needed)
pub mixed-new : (q j a : ℕ) → q ≤ 2 ^ 53 → q * 2 ^ j ≤ mixed 0 a (q * 2 ^ j)
mixed-new q j a h =
    let s : q * 2 ^ j ≤ summed 0 a (q * 2 ^ j) = nearly-ge 53 q j (scaled 0 a + q * 2 ^ j) 1 P (zero-lt-suc 0) h (le_trans (le_of_eq (mul-one (q * 2 ^ j))) (plus (scaled 0 a) (q * 2 ^ j))) in
    nearly-ge 53 q j (summed 0 a (q * 2 ^ j)) 1 P (zero-lt-suc 0) h (le_trans (le_of_eq (mul-one (q * 2 ^ j))) s)
  where
    plus : (x y : ℕ) → y ≤ x + y
    plus x y = omega arith

-- ---- an idle round: three roundings, each within one part in 2 ^ 52 and one unit
-- (`omega` takes no number of more than 38 digits on its way, so the error is made one part in 2 ^ 17 first)
coarse : (x y d : ℕ) → y * 2 ^ 52 ≤ x * 2 ^ 52 + x + d * 2 ^ 52 → y * 2 ^ 17 ≤ x * 2 ^ 17 + x + d * 2 ^ 17
coarse x y d h = omega arith

idle-lin : (b a x p s q y : ℕ) → x ≤ a * 999
    → p * 1 * 2 ^ 17 ≤ x * 2 ^ 17 + x + 1 * 2 ^ 17
    → s * 1 * 2 ^ 17 ≤ (p + 0) * 2 ^ 17 + (p + 0) + 1 * 2 ^ 17
    → (y + q) * 2 ^ 17 ≤ s * 2 ^ 17 + s + suc b * 2 ^ 17
    → 20 * y + 20 * q ≤ 20 * x + a + (80 * b + 80)
idle-lin b a x p s q y h i j k = omega arith

pub mixed-idle : (b a : ℕ) → b ≤ 999 → mixed b a 0 * full b ≤ a * share b + 4 * full b
mixed-idle b a B =
    let p = scaled b a in
    let s = summed b a 0 in
    let q = mixed b a 0 in
    let e : q * full b ≡ 20 * (q * b) + 20 * q = left q b in
    let g : a * share b ≡ 20 * (a * b) + a = right a b in
    let k : (q * b + q) * 2 ^ 17 ≤ s * 2 ^ 17 + s + suc b * 2 ^ 17 = subst (λ (z : ℕ). z * 2 ^ 17 ≤ s * 2 ^ 17 + s + suc b * 2 ^ 17) (mul-suc q b) (coarse s (q * suc b) (suc b) (nearly-upper 53 s (suc b) P (zero-lt-suc b))) in
    let r : 20 * (q * b) + 20 * q ≤ 20 * (a * b) + a + (80 * b + 80) =
    idle-lin b a (a * b) p s q (q * b) (mul-le-mul_left a B)
    (coarse (a * b) (p * 1) 1 (nearly-upper 53 (a * b) 1 P (zero-lt-suc 0))) (coarse (p + 0) (s * 1) 1 (nearly-upper 53 (p + 0) 1 P (zero-lt-suc 0))) k in
    all (q * full b) (20 * (q * b) + 20 * q) (a * share b) (20 * (a * b) + a) b e g r
  where
    left : (x y : ℕ) → x * (20 * y + 1 + 19) ≡ 20 * (x * y) + 20 * x
    left x y = ap (λ (z : ℕ). x * z) (num y) ∙ mul-add x (y * 20) 20 ∙ ap (λ (z : ℕ). z + x * 20) (sym (mul_assoc x y 20)) ∙ tidy (x * y) x
      where
        num : (z : ℕ) → 20 * z + 1 + 19 ≡ z * 20 + 20
        num z = omega arith

        tidy : (u v : ℕ) → u * 20 + v * 20 ≡ 20 * u + 20 * v
        tidy u v = omega arith

    right : (x y : ℕ) → x * (20 * y + 1) ≡ 20 * (x * y) + x
    right x y = ap (λ (z : ℕ). x * z) (num y) ∙ mul-add x (y * 20) 1 ∙ ap (λ (z : ℕ). z + x * 1) (sym (mul_assoc x y 20)) ∙ tidy (x * y) x
      where
        num : (z : ℕ) → 20 * z + 1 ≡ z * 20 + 1
        num z = omega arith

        tidy : (u v : ℕ) → u * 20 + v * 1 ≡ 20 * u + v
        tidy u v = omega arith

    all : (l l' m m' x : ℕ) → l ≡ l' → m ≡ m' → l' ≤ m' + (80 * x + 80) → l ≤ m + 4 * (20 * x + 1 + 19)
    all l l' m m' x i j k = omega arith

-- it is no larger than a bound of a that is at least 2 ^ 20 units
pub mixed-idle-le : (b a u : ℕ) → b ≤ 999 → a ≤ u → 2 ^ 20 ≤ u → mixed b a 0 ≤ u
mixed-idle-le b a u B A U =
    let e : u * full b ≡ u * share b + u * 19 = mul-add u (share b) 19 in
    let h : a * share b ≤ u * share b = mul-le-mul_right (share b) A in
    le_of_mul-le-mul_right (le_trans (mixed-idle b a B) (all (a * share b) (u * share b) (u * full b) b u h e B U)) (positive (20 * b + 1))
  where
    all : (x y z b u : ℕ) → x ≤ y → z ≡ y + u * 19 → b ≤ 999 → 2 ^ 20 ≤ u → x + 4 * (20 * b + 1 + 19) ≤ z
    all x y z b u i j k l = omega arith

    positive : (k : ℕ) → 0 < k + 19
    positive k = omega arith
