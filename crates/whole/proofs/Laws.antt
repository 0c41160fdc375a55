-- Arithmetic and comparison of f64 values that are whole numbers up to 2 ^ 53 is that of the numbers.
-- Only the operands must be exact: a sum or product beyond 2 ^ 53 is the rounded number on both sides.
-- (A bound on a product alone is not enough: 2 ^ 1024 is an infinity, and times 0 that is a NaN.)
use mathlib.Core.Path.{◌≡◌, refl, sym, ap, ap₂, ◌∙◌, subst}
use Prim.Native.Nat.{ℕ, ◌+◌, ◌-◌, ◌*◌, ◌≤◌}
use native.Mathlib.Omega.{arith}
use lib.Dec.{T, ltb, eqb, le→leb}
use lib.IntN.{pos}
use lib.Ieee.{Float, binary64, add, sub, mul, of_bits, lt, eq, of_int, to_unsigned, in_unsigned, in_float}
use lib.Ieee.Back.{unsigned_back}
use Rattle.model.specs.Whole.{whole, exact, amount, IsWhole}
use Rattle.whole.proofs.Size.{is_whole, add_is, sub_is, mul_is, lt-is, eq_is}

module _ (a b : ℕ) (A : a ≤ exact) (B : b ≤ exact) where
  pub add-whole : add binary64 (whole a) (whole b) ≡ whole (a + b)
  add-whole = add_is (is_whole a A) (is_whole b B)

  pub sub-whole : b ≤ a → sub binary64 (whole a) (whole b) ≡ whole (a - b)
  sub-whole h = sub_is (is_whole a A) (is_whole b B) h

  pub mul-whole : mul binary64 (whole a) (whole b) ≡ whole (a * b)
  mul-whole = mul_is (is_whole a A) (is_whole b B)

  pub lt-whole : lt (whole a) (whole b) ≡ ltb a b
  lt-whole = lt-is (is_whole a A) (is_whole b B)

  pub eq-whole : eq (whole a) (whole b) ≡ eqb a b
  eq-whole = eq_is (is_whole a A) (is_whole b B)

-- the literal 0.0
pub zero-whole : of_bits binary64 0 ≡ whole 0
unfolding of_bits of_int
zero-whole = refl

-- ---- casts

-- what the cast of a number to f64 asks
pub in-float : (n : ℕ) → n ≤ exact → T (in_float binary64 (pos n))
unfolding in_float
in-float n h = le→leb n exact h

-- what the cast back to u64 asks
pub in-unsigned : (n : ℕ) → n ≤ exact → T (in_unsigned binary64 64 (whole n))
in-unsigned n h = (unsigned_back binary64 64 n (in-float n h) (omega arith)).0

pub back_whole : (n : ℕ) → n ≤ exact → to_unsigned 64 (whole n) ≡ n
back_whole n h = (unsigned_back binary64 64 n (in-float n h) (omega arith)).1

-- ---- a value that is some whole number

pub amount-is : (c : Float) (n : ℕ) → n ≤ exact → c ≡ whole n → amount c ≡ n
amount-is c n h e = ap amount e ∙ back_whole n h

module _ (c : Float) (h : IsWhole c) where
  pub cast-amount : T (in_unsigned binary64 64 c)
  cast-amount = subst (λ (x : Float). T (in_unsigned binary64 64 x)) (sym h.2) (in-unsigned h.0 h.1)

  pub whole-amount : whole (amount c) ≡ c
  whole-amount = ap whole (amount-is c h.0 h.1 h.2) ∙ sym h.2

  pub amount-small : amount c ≤ exact
  amount-small = subst (λ (n : ℕ). n ≤ exact) (sym (amount-is c h.0 h.1 h.2)) h.1

module _ (a b : Float) (h : IsWhole a) (k : IsWhole b) where
  pub lt-amount : lt a b ≡ ltb (amount a) (amount b)
  lt-amount =
      ap₂ lt (sym (whole-amount a h)) (sym (whole-amount b k)) ∙ lt-whole (amount a) (amount b) (amount-small a h) (amount-small b k)

  pub eq-amount : eq a b ≡ eqb (amount a) (amount b)
  eq-amount =
      ap₂ eq (sym (whole-amount a h)) (sym (whole-amount b k)) ∙ eq-whole (amount a) (amount b) (amount-small a h) (amount-small b k)
