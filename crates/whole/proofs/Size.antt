-- The operations of `f64` on values that are a whole number exactly: each is computed on fractions, and those are whole numbers in other terms.
use mathlib.Core.Path.{◌≡◌, refl, sym, ap, ◌∙◌}
use mathlib.Core.Logic.{◌⊎◌, inl, inr, ⊎_elim}
use Prim.Native.Nat.{ℕ, ◌+◌, ◌-◌, ◌*◌, ◌≤◌, ◌<◌}
use native.Mathlib.Nat.{mul-one, add-mul, mul_comm, mul_assoc, mul_left_comm, mul-pos, mul-sub, mul-lt-mul_of_pos_right, mul-le-mul_right, eq_of_mul-eq-mul_right}
use native.Mathlib.Omega.{arith}
use mathlib.Core.Bool.{Bool, true, false, ◌&&◌, cond, true≢false}
use native.Mathlib.Decide.{dec_lt, ℕ_discrete}
use lib.Dec.{ltb, eqb, lit<}
use lib.IntN.{ℤ}
use lib.Ieee.{Float, fin, Format, binary64, up, down, round, sum, add, sub, mul, lt, eq, of_int}
use lib.Ieee.Fits.{down_pos}
use lib.Ieee.Exact.{HasValue}
use lib.Ieee.Back.{round_whole}
use lib.Ieee.Scale.{round_same}
use borrow.Author.Tests.{lt-ltb, le-ltb, eq-eqb, ne_eqb}
use Rattle.model.specs.Whole.{whole, exact}

-- ---- tests on numbers

and-true : (t : Bool) → t && true ≡ t
and-true true = refl
and-true false = refl

lt-or-le : (a b : ℕ) → (a < b) ⊎ (b ≤ a)
lt-or-le a b = elim (dec_lt a b) [ yes h ↦ inl h | no h ↦ inr (omega arith) ]

eq-or-ne : (a b : ℕ) → (a ≡ b) ⊎ (a ≡ b → ⊥)
eq-or-ne a b = elim (ℕ_discrete a b) [ yes h ↦ inl h | no h ↦ inr h ]

-- ---- fractions: x / de is a, and y / dd is b

module _ (x y de dd a b : ℕ) (p : x * 1 ≡ a * de) (q : y * 1 ≡ b * dd) where
  over-x : x ≡ a * de
  over-x = sym (mul-one x) ∙ p

  over-y : y ≡ b * dd
  over-y = sym (mul-one y) ∙ q

  sums : (x * dd + y * de) * 1 ≡ (a + b) * (de * dd)
  sums = mul-one (x * dd + y * de) ∙ rw (over-x, over-y) (simp (add-mul, mul_assoc, mul_comm, mul_left_comm))

  products : x * y * 1 ≡ a * b * (de * dd)
  products = mul-one (x * y) ∙ rw (over-x, over-y) (simp (mul_assoc, mul_comm, mul_left_comm))

  differences : (x * dd - y * de) * 1 ≡ (a - b) * (de * dd)
  differences =
      mul-one (x * dd - y * de) ∙ rw (over-x, over-y) (simp (mul_comm (a - b) (de * dd), mul-sub) (simp (mul_assoc, mul_comm, mul_left_comm)))

  left : x * dd ≡ a * (de * dd)
  left = ap (λ (k : ℕ). k * dd) over-x ∙ mul_assoc a de dd

  right : y * de ≡ b * (de * dd)
  right = ap (λ (k : ℕ). k * de) over-y ∙ mul_assoc b dd de ∙ ap (λ (k : ℕ). b * k) (mul_comm dd de)

  scaled-le : b ≤ a → y * de ≤ x * dd
  scaled-le h = rw (left, right) (mul-le-mul_right (de * dd) h)

  -- the order of x * dd and y * de is that of a and b
  module _ (D : 0 < de) (E : 0 < dd) where
    scaled-lt : a < b → x * dd < y * de
    scaled-lt h = rw (left, right) (mul-lt-mul_of_pos_right h (mul-pos D E))

    scaled-ne : (a ≡ b → ⊥) → x * dd ≡ y * de → ⊥
    scaled-ne h k = h (eq_of_mul-eq-mul_right (de * dd) (mul-pos D E) a b (sym left ∙ k ∙ right))

    ltb-scaled : ltb (x * dd) (y * de) ≡ ltb a b
    ltb-scaled =
        ⊎_elim (λ h. lt-ltb (x * dd) (y * de) (scaled-lt h) ∙ sym (lt-ltb a b h))
        (λ h. le-ltb (x * dd) (y * de) (scaled-le h) ∙ sym (le-ltb a b h)) (lt-or-le a b)

    eqb-scaled : eqb (x * dd) (y * de) ≡ eqb a b
    eqb-scaled =
        ⊎_elim (λ h. eq-eqb (x * dd) (y * de) (left ∙ ap (λ (k : ℕ). k * (de * dd)) h ∙ sym right) ∙ sym (eq-eqb a b h))
        (λ h. ne_eqb (x * dd) (y * de) (scaled-ne h) ∙ sym (ne_eqb a b h)) (eq-or-ne a b)

-- ---- x is the whole number a, and +0 where a is 0: its sign is not negative and its size is a / 1

pub data Is : Float → ℕ → Type 0 where
  is : (m : ℕ) (e : ℤ) (a : ℕ) → m * up e * 1 ≡ a * down e → Is (fin false m e) a

is-of : (x : Float) (a : ℕ) → HasValue x false a 1 → Is x a
is-of (fin false m e) a v = is m e a v.1
is-of (fin true m e) a v = absurd (true≢false v.0)
is-of lib.Ieee.nan a v = elim v [ ]
is-of (lib.Ieee.inf _) a v = elim v [ ]

pub is_whole : (n : ℕ) → n ≤ exact → Is (whole n) n
unfolding of_int
is_whole n h = is-of (whole n) n (round_whole binary64 false n h)

pub add_is : {x y : Float} {a b : ℕ} → Is x a → Is y b → add binary64 x y ≡ whole (a + b)
unfolding add of_int
add_is (is m e a p) (is n d b q) =
    round_same binary64 false (m * up e * down d + n * up d * down e) (down e * down d) (a + b) 1 (mul-pos (down_pos e) (down_pos d)) (lit< tt)
    (sums (m * up e) (n * up d) (down e) (down d) a b p q)

pub mul_is : {x y : Float} {a b : ℕ} → Is x a → Is y b → mul binary64 x y ≡ whole (a * b)
unfolding mul of_int
mul_is (is m e a p) (is n d b q) =
    round_same binary64 false (m * up e * (n * up d)) (down e * down d) (a * b) 1 (mul-pos (down_pos e) (down_pos d)) (lit< tt)
    (products (m * up e) (n * up d) (down e) (down d) a b p q)

pub lt-is : {x y : Float} {a b : ℕ} → Is x a → Is y b → lt x y ≡ ltb a b
unfolding lt
lt-is (is m e a p) (is n d b q) = ltb-scaled (m * up e) (n * up d) (down e) (down d) a b p q (down_pos e) (down_pos d)

pub eq_is : {x y : Float} {a b : ℕ} → Is x a → Is y b → eq x y ≡ eqb a b
unfolding eq
eq_is (is m e a p) (is n d b q) =
    and-true (eqb (m * up e * down d) (n * up d * down e)) ∙ eqb-scaled (m * up e) (n * up d) (down e) (down d) a b p q (down_pos e) (down_pos d)

-- a difference that is not negative
neg-first : (f : Format) (a b c : ℕ) → b ≤ a → sum f false a true b c ≡ round f false (a - b) c
unfolding sum
neg-first f a b c h = ap (λ (t : Bool). cond t (round f true (b - a) c) (round f false (a - b) c)) (le-ltb a b h)

pub sub_is : {x y : Float} {a b : ℕ} → Is x a → Is y b → b ≤ a → sub binary64 x y ≡ whole (a - b)
unfolding sub of_int
sub_is (is m e a p) (is n d b q) h =
    neg-first binary64 (m * up e * down d) (n * up d * down e) (down e * down d) (scaled-le (m * up e) (n * up d) (down e) (down d) a b p q h)
    ∙ round_same binary64 false (m * up e * down d - n * up d * down e) (down e * down d) (a - b) 1 (mul-pos (down_pos e) (down_pos d)) (lit< tt)
    (differences (m * up e) (n * up d) (down e) (down d) a b p q)
