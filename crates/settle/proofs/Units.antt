-- Rounding, in units of the format's smallest value: `nearly p n d` is what `round` makes of n / d units, in units, for a format of p digits.
-- It is within one part in 2 ^ (p - 1), and one unit, of n / d; it keeps the order; and it changes nothing at q * 2 ^ j for q ≤ 2 ^ p.
use mathlib.Core.Path.{◌≡◌, refl, sym, ap, ◌∙◌, subst}
use mathlib.Core.Logic.{inl, inr}
use Prim.Native.Nat.compare
use Prim.Native.Nat.{Ordering}
use Prim.Native.Nat.{ℕ, zero, suc, ◌+◌, ◌-◌, ◌*◌, ◌/◌, ◌%◌, ◌^◌, ◌≤◌, ◌<◌, zero-le, compare}
use native.Mathlib.Nat.{le_trans, le_of_eq, le_antisymm, lt_of_le_of_lt, lt_irrefl, eq-or-lt_of_le, mul-one, one-mul, mul_comm, mul_assoc, mul_left_comm, mul-le-mul_right, mul-pos, suc-mul, add-mul, le-div_iff_mul-le, div-mul-le_self, lt-div-mul-add, div-div-eq-div-mul, mul-div_cancel, mul-mod_left}
use native.Mathlib.Omega.{arith}
use lib.Pow.{pow-add, pow_pos, pow_mono, pow-lt, shl_lt}
use lib.Ieee.{size, nearest}
use lib.Ieee.Digits.{size-lt, size-le, size_reaches, back}
use lib.Ieee.Fits.{kept-lt, nearest-le}
use lib.Ieee.Nearest.{closest, closest_mono, nearest-ge, div_mono}
use lib.Ieee.Order.{drop, kept}

abbrev pub nearly : ℕ → ℕ → ℕ → ℕ
nearly p n d = kept p n d * 2 ^ drop p n d

-- ---- what one place of the result is worth, 2 ^ drop units, beside n / d
all_in_use : (z p : ℕ) → 0 < p → 0 < z - p → p - 1 + (z - p) < z
all_in_use z p P h = omega arith

place : (p n d : ℕ) → 0 < p → 0 < d → d * 2 ^ drop p n d * 2 ^ (p - 1) ≤ n + d * 2 ^ (p - 1)
place p n d P D = go (drop p n d) refl
  where
    go : (k : ℕ) → drop p n d ≡ k → d * 2 ^ k * 2 ^ (p - 1) ≤ n + d * 2 ^ (p - 1)
    go zero e = le_trans (le_of_eq (ap (λ (x : ℕ). x * 2 ^ (p - 1)) (mul-one d))) (omega arith)
    go (suc k) e =
        let K : 0 < drop p n d = omega arith in
        let r : 2 ^ (p - 1 + suc k) ≤ n / d = subst (λ (x : ℕ). 2 ^ (p - 1 + x) ≤ n / d) e (size_reaches (n / d) (p - 1 + drop p n d) (all_in_use (size (n / d)) p P K)) in
        let m : 2 ^ (p - 1 + suc k) * d ≤ n = (le-div_iff_mul-le D).0 r in
        let q : d * 2 ^ suc k * 2 ^ (p - 1) ≡ 2 ^ (p - 1 + suc k) * d = simp (pow-add, mul_assoc, mul_comm, mul_left_comm) in
        omega arith

-- ---- one part in 2 ^ (p - 1), and one unit
over : (w n u x : ℕ) → x ≤ suc w → w * u ≤ n → x * u ≤ n + u
over w n u x h k = let a : x * u ≤ suc w * u = mul-le-mul_right u h in let e : suc w * u ≡ w * u + u = suc-mul w u in omega arith

under : (w n u x : ℕ) → w ≤ x → n < w * u + u → n ≤ x * u + u
under w n u x h k = let a : w * u ≤ x * u = mul-le-mul_right u h in omega arith

upper : (x t d n H : ℕ) → x * (d * t) ≤ n + d * t → d * t * H ≤ n + d * H → x * t * d * H ≤ n * H + n + d * H
upper x t d n H a b =
    let e : x * t * d * H ≡ x * (d * t) * H = simp (mul_assoc, mul_comm) in
    let g : x * (d * t) * H ≤ (n + d * t) * H = mul-le-mul_right H a in
    let i : (n + d * t) * H ≡ n * H + d * t * H = add-mul n (d * t) H in
    omega arith

lower : (x t d n H : ℕ) → n ≤ x * (d * t) + d * t → d * t * H ≤ n + d * H → n * H ≤ x * t * d * H + n + d * H
lower x t d n H a b =
    let e : x * t * d * H ≡ x * (d * t) * H = simp (mul_assoc, mul_comm) in
    let g : n * H ≤ (x * (d * t) + d * t) * H = mul-le-mul_right H a in
    let i : (x * (d * t) + d * t) * H ≡ x * (d * t) * H + d * t * H = add-mul (x * (d * t)) (d * t) H in
    omega arith

pub nearly-upper : (p n d : ℕ) → 0 < p → 0 < d → nearly p n d * d * 2 ^ (p - 1) ≤ n * 2 ^ (p - 1) + n + d * 2 ^ (p - 1)
nearly-upper p n d P D =
    let t = 2 ^ drop p n d in
    let u = d * t in
    upper (kept p n d) t d n (2 ^ (p - 1)) (over (n / u) n u (kept p n d) (nearest-le (n / u) (compare (n % u * 2) u)) (div-mul-le_self n u)) (place p n d P D)

pub nearly-lower : (p n d : ℕ) → 0 < p → 0 < d → n * 2 ^ (p - 1) ≤ nearly p n d * d * 2 ^ (p - 1) + n + d * 2 ^ (p - 1)
nearly-lower p n d P D =
    let t = 2 ^ drop p n d in
    let u = d * t in
    lower (kept p n d) t d n (2 ^ (p - 1)) (under (n / u) n u (kept p n d) (nearest-ge (n / u) (compare (n % u * 2) u)) (lt-div-mul-add (mul-pos D (pow_pos (drop p n d))))) (place p n d P D)

-- ---- the order: what `Order.antt` proves on the way to `round_mono`, and keeps to itself
size_mono : (a b : ℕ) → a ≤ b → size a ≤ size b
size_mono a b h = size-le a (size b) (lt_of_le_of_lt h (size-lt b))

same_drop : (k a b c d : ℕ) → 0 < b → 0 < d → a * d ≤ c * b → closest a (b * 2 ^ k) * 2 ^ k ≤ closest c (d * 2 ^ k) * 2 ^ k
same_drop k a b c d B D h =
    mul-le-mul_right (2 ^ k)
    (closest_mono a (b * 2 ^ k) c (d * 2 ^ k) (mul-pos B (pow_pos k)) (mul-pos D (pow_pos k))
    (le_trans (le_of_eq (sym (mul_assoc a d (2 ^ k)))) (le_trans (mul-le-mul_right (2 ^ k) h) (le_of_eq (mul_assoc c b (2 ^ k))))))

kept-le : (p n d : ℕ) → kept p n d ≤ 2 ^ p
kept-le p n d =
    let k = drop p n d in
    let u = d * 2 ^ k in
    le_trans (nearest-le (n / u) (compare (n % u * 2) u)) (subst (λ (x : ℕ). x < 2 ^ p) (div-div-eq-div-mul n d (2 ^ k)) (kept-lt p (n / d)))

kept-ge : (p n d : ℕ) → 0 < p → 0 < drop p n d → 2 ^ (p - 1) ≤ kept p n d
kept-ge p n d P K =
    let k = drop p n d in
    let u = d * 2 ^ k in
    let w = n / d in
    let a : 2 ^ (p - 1) * 2 ^ k ≤ w = le_trans (le_of_eq (sym (pow-add 2 (p - 1) k))) (size_reaches w (p - 1 + k) (all_in_use (size w) p P K)) in
    le_trans (subst (λ (x : ℕ). 2 ^ (p - 1) ≤ x) (div-div-eq-div-mul n d (2 ^ k)) ((le-div_iff_mul-le (pow_pos k)).1 a)) (nearest-ge (n / u) (compare (n % u * 2) u))

fewer : (x y p : ℕ) → x ≤ y → x - p ≤ y - p
fewer x y p h = omega arith

room : (p j k : ℕ) → 0 < p → j < k → p + j ≤ p - 1 + k
room p j k P h = omega arith

pub nearly-mono : (p a b c d : ℕ) → 0 < p → 0 < b → 0 < d → a * d ≤ c * b → nearly p a b ≤ nearly p c d
nearly-mono p a b c d P B D h =
    let j = drop p a b in
    let k = drop p c d in
    elim (eq-or-lt_of_le (fewer (size (a / b)) (size (c / d)) p (size_mono (a / b) (c / d) (div_mono a b c d B D h)))) [
      | inl e ↦ subst (λ (x : ℕ). closest a (b * 2 ^ x) * 2 ^ x ≤ kept p c d * 2 ^ k) (sym e) (same_drop k a b c d B D h)
      | inr l ↦
          le_trans (mul-le-mul_right (2 ^ j) (kept-le p a b))
          (le_trans (le_of_eq (sym (pow-add 2 p j)))
          (le_trans (pow_mono (room p j k P l))
          (le_trans (le_of_eq (pow-add 2 (p - 1) k)) (mul-le-mul_right (2 ^ k) (kept-ge p c d P (lt_of_le_of_lt zero-le l))))))
    ]

pub nearly-same : (p a b c d : ℕ) → 0 < p → 0 < b → 0 < d → a * d ≡ c * b → nearly p a b ≡ nearly p c d
nearly-same p a b c d P B D e = le_antisymm (nearly-mono p a b c d P B D (le_of_eq e)) (nearly-mono p c d a b P D B (le_of_eq (sym e)))

-- ---- where nothing is rounded
above_zero : (u : ℕ) → 0 < u → compare 0 u ≡ Ordering.lt
above_zero zero h = absurd (lt_irrefl 0 h)
above_zero (suc u) h = compare.zero-suc u

closest-whole : (r u : ℕ) → 0 < u → closest (r * u) u ≡ r
closest-whole r u h =
    ap (λ (x : ℕ). nearest x (compare (r * u % u * 2) u)) (mul-div_cancel r h)
    ∙ ap (λ (x : ℕ). nearest r (compare (x * 2) u)) (mul-mod_left r u)
    ∙ ap (nearest r) (above_zero u h)

spare : (z p l : ℕ) → z ≤ p + l → z - p ≤ l
spare z p l h = omega arith

exact_below : (p q j d : ℕ) → 0 < d → q < 2 ^ p → nearly p (q * 2 ^ j * d) d ≡ q * 2 ^ j
exact_below p q j d D small =
    let n = q * 2 ^ j * d in
    let e1 : n / d ≡ q * 2 ^ j = mul-div_cancel (q * 2 ^ j) D in
    let k = drop p n d in
    let k-le : k ≤ j = spare (size (n / d)) p j (size-le (n / d) (p + j) (subst (λ (x : ℕ). x < 2 ^ (p + j)) (sym e1) (shl_lt p j small))) in
    let r = q * 2 ^ (j - k) in
    let e3 : r * 2 ^ k ≡ q * 2 ^ j = mul_assoc q (2 ^ (j - k)) (2 ^ k) ∙ ap (λ (x : ℕ). q * x) (sym (pow-add 2 (j - k) k) ∙ ap (λ (x : ℕ). 2 ^ x) (back j k k-le)) in
    let e2 : n ≡ r * (d * 2 ^ k) = ap (λ (x : ℕ). x * d) (sym e3) ∙ mul_assoc r (2 ^ k) d ∙ ap (λ (x : ℕ). r * x) (mul_comm (2 ^ k) d) in
    ap (λ (x : ℕ). closest x (d * 2 ^ k) * 2 ^ k) e2
    ∙ ap (λ (x : ℕ). x * 2 ^ k) (closest-whole r (d * 2 ^ k) (mul-pos D (pow_pos k)))
    ∙ e3

pub nearly-exact : (p q j d : ℕ) → 0 < p → 0 < d → q ≤ 2 ^ p → nearly p (q * 2 ^ j * d) d ≡ q * 2 ^ j
nearly-exact p q j d P D h =
    elim (eq-or-lt_of_le h) [
      | inl e ↦
          let z : 1 * 2 ^ (p + j) ≡ q * 2 ^ j = one-mul (2 ^ (p + j)) ∙ pow-add 2 p j ∙ ap (λ (x : ℕ). x * 2 ^ j) (sym e) in
          subst (λ (x : ℕ). nearly p (x * d) d ≡ x) z (exact_below p 1 (p + j) d D (pow-lt P))
      | inr l ↦ exact_below p q j d D l
    ]

-- so a number of that form that is a bound of n / d is one of the rounded value
pub nearly-ge : (p q j n d : ℕ) → 0 < p → 0 < d → q ≤ 2 ^ p → q * 2 ^ j * d ≤ n → q * 2 ^ j ≤ nearly p n d
nearly-ge p q j n d P D h k = subst (λ (x : ℕ). x ≤ nearly p n d) (nearly-exact p q j d P D h) (nearly-mono p (q * 2 ^ j * d) d n d P D D (mul-le-mul_right d k))

pub nearly-le : (p q j n d : ℕ) → 0 < p → 0 < d → q ≤ 2 ^ p → n ≤ q * 2 ^ j * d → nearly p n d ≤ q * 2 ^ j
nearly-le p q j n d P D h k = subst (λ (x : ℕ). nearly p n d ≤ x) (nearly-exact p q j d P D h) (nearly-mono p n d (q * 2 ^ j * d) d P D D (mul-le-mul_right d k))
