-- The digits of a set, one by one: digit s + 1 of a number is digit s of its half.
use mathlib.Core.Path.{◌≡◌, refl, sym, ap, ap₂, ◌∙◌, subst}
use Prim.Native.Nat.{ℕ, zero, suc, ◌+◌, ◌-◌, ◌*◌, ◌/◌, ◌%◌, ◌^◌, ◌≤◌, ◌<◌}
use native.Mathlib.Nat.{pow-suc, mul_assoc, add-mul, one-mul, mul-one, div-one}
use native.Mathlib.Numerals.{one-add}
use native.Mathlib.Omega.{arith}
use lib.Pow.{high_ones, shr-shr, shl_exact}
use lib.Bits.{bit_and, bit_or, and_high, and_le_l, or_add_and}
use Rattle.model.specs.StopSet.{bit, excluding, including}

-- ---- what the machine's operations are

-- `1 << s`
pub shifted : (s : ℕ) → s < 64 → 1 * 2 ^ s % 2 ^ 64 ≡ 2 ^ s
shifted s h = shl_exact 1 s 64 (omega arith) (omega arith) ∙ one-mul (2 ^ s)

-- `set & (1 << s)`
pub and-bit : (set s : ℕ) → bit_and set (2 ^ s) ≡ bit s set * 2 ^ s
and-bit set s = ap (bit_and set) (sym (one-mul (2 ^ s)) ∙ sym (high_ones 1 s)) ∙ and_high set 1 s

times : (b p : ℕ) → b + (1 - b) ≡ 1 → b * p + (1 - b) * p ≡ p
times b p e = sym (add-mul b (1 - b) p) ∙ ap (λ (x : ℕ). x * p) e ∙ one-mul p

-- `set | (1 << s)`: the sum less the digits in common
pub or-bit : (set s : ℕ) → bit_or set (2 ^ s) ≡ including s set
or-bit set s =
    let a = or_add_and set (2 ^ s) in
    let b = and-bit set s in
    let t = times (bit s set) (2 ^ s) (omega arith) in
    omega arith

bit_le : (set s : ℕ) → bit s set * 2 ^ s ≤ set
bit_le set s = subst (λ (x : ℕ). x ≤ set) (and-bit set s) (and_le_l set (2 ^ s))

-- ---- digit 0, and digit s + 1

pub bit-zero : (set : ℕ) → bit 0 set ≡ set % 2
bit-zero set = ap (λ (x : ℕ). x % 2) (div-one set)

pub bit-suc : (s set : ℕ) → bit (suc s) set ≡ bit s (set / 2)
bit-suc s set = ap (λ (x : ℕ). x % 2) (ap (λ (x : ℕ). set / 2 ^ x) (sym (one-add s)) ∙ sym (shr-shr set 1 s))

digit-suc : (b c s : ℕ) → b ≡ c → b * 2 ^ suc s ≡ c * 2 ^ s * 2
digit-suc b c s e = ap₂ (λ (x y : ℕ). x * y) e (pow-suc 2 s) ∙ sym (mul_assoc c (2 ^ s) 2)

module _ (set : ℕ) where
  excluding-zero : excluding 0 set ≡ set - set % 2
  excluding-zero = ap (λ (x : ℕ). set - x) (mul-one (bit 0 set) ∙ bit-zero set)

  pub excluding-half0 : excluding 0 set / 2 ≡ set / 2
  excluding-half0 = ap (λ (x : ℕ). x / 2) excluding-zero ∙ omega arith

  pub excluding-low0 : excluding 0 set % 2 ≡ 0
  excluding-low0 = ap (λ (x : ℕ). x % 2) excluding-zero ∙ omega arith

  including-zero : including 0 set ≡ set + (1 - set % 2)
  including-zero = ap (λ (x : ℕ). set + x) (mul-one (1 - bit 0 set) ∙ ap (λ (x : ℕ). 1 - x) (bit-zero set))

  pub including-half0 : including 0 set / 2 ≡ set / 2
  including-half0 = ap (λ (x : ℕ). x / 2) including-zero ∙ omega arith

  pub including-low0 : including 0 set % 2 ≡ 1
  including-low0 = ap (λ (x : ℕ). x % 2) including-zero ∙ omega arith

module _ (s set : ℕ) where
  excluding-suc : excluding (suc s) set ≡ set - bit s (set / 2) * 2 ^ s * 2
  excluding-suc = ap (λ (x : ℕ). set - x) (digit-suc (bit (suc s) set) (bit s (set / 2)) s (bit-suc s set))

  pub excluding-half : excluding (suc s) set / 2 ≡ excluding s (set / 2)
  excluding-half = ap (λ (x : ℕ). x / 2) excluding-suc ∙ go (bit s (set / 2) * 2 ^ s)
    where
      go : (m : ℕ) → (set - m * 2) / 2 ≡ set / 2 - m
      go m = omega arith

  pub excluding-low : excluding (suc s) set % 2 ≡ set % 2
  excluding-low = ap (λ (x : ℕ). x % 2) excluding-suc ∙ go (bit s (set / 2) * 2 ^ s) (bit_le (set / 2) s)
    where
      go : (m : ℕ) → m ≤ set / 2 → (set - m * 2) % 2 ≡ set % 2
      go m h = omega arith

  including-suc : including (suc s) set ≡ set + (1 - bit s (set / 2)) * 2 ^ s * 2
  including-suc =
      ap (λ (x : ℕ). set + x)
      (digit-suc (1 - bit (suc s) set) (1 - bit s (set / 2)) s (ap (λ (x : ℕ). 1 - x) (bit-suc s set)))

  pub including-half : including (suc s) set / 2 ≡ including s (set / 2)
  including-half = ap (λ (x : ℕ). x / 2) including-suc ∙ go ((1 - bit s (set / 2)) * 2 ^ s)
    where
      go : (m : ℕ) → (set + m * 2) / 2 ≡ set / 2 + m
      go m = omega arith

  pub including-low : including (suc s) set % 2 ≡ set % 2
  including-low = ap (λ (x : ℕ). x % 2) including-suc ∙ go ((1 - bit s (set / 2)) * 2 ^ s)
    where
      go : (m : ℕ) → (set + m * 2) % 2 ≡ set % 2
      go m = omega arith

-- ---- the digits of a set after a stop is taken out or put in

pub bit-excluding-same : (s set : ℕ) → bit s (excluding s set) ≡ 0
bit-excluding-same zero set = bit-zero (excluding 0 set) ∙ excluding-low0 set
bit-excluding-same (suc s) set =
    bit-suc s (excluding (suc s) set) ∙ ap (bit s) (excluding-half s set) ∙ bit-excluding-same s (set / 2)

pub bit-excluding-other : (t s set : ℕ) → (t ≡ s → ⊥) → bit t (excluding s set) ≡ bit t set
bit-excluding-other zero zero set f = absurd (f refl)
bit-excluding-other zero (suc s) set f = bit-zero (excluding (suc s) set) ∙ excluding-low s set ∙ sym (bit-zero set)
bit-excluding-other (suc t) zero set f = bit-suc t (excluding 0 set) ∙ ap (bit t) (excluding-half0 set) ∙ sym (bit-suc t set)
bit-excluding-other (suc t) (suc s) set f =
    bit-suc t (excluding (suc s) set) ∙ ap (bit t) (excluding-half s set)
    ∙ bit-excluding-other t s (set / 2) (λ e. f (ap suc e)) ∙ sym (bit-suc t set)

pub bit-including-same : (s set : ℕ) → bit s (including s set) ≡ 1
bit-including-same zero set = bit-zero (including 0 set) ∙ including-low0 set
bit-including-same (suc s) set =
    bit-suc s (including (suc s) set) ∙ ap (bit s) (including-half s set) ∙ bit-including-same s (set / 2)

pub bit-including-other : (t s set : ℕ) → (t ≡ s → ⊥) → bit t (including s set) ≡ bit t set
bit-including-other zero zero set f = absurd (f refl)
bit-including-other zero (suc s) set f = bit-zero (including (suc s) set) ∙ including-low s set ∙ sym (bit-zero set)
bit-including-other (suc t) zero set f = bit-suc t (including 0 set) ∙ ap (bit t) (including-half0 set) ∙ sym (bit-suc t set)
bit-including-other (suc t) (suc s) set f =
    bit-suc t (including (suc s) set) ∙ ap (bit t) (including-half s set)
    ∙ bit-including-other t s (set / 2) (λ e. f (ap suc e)) ∙ sym (bit-suc t set)
