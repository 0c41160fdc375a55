-- A trail tells words apart: another word, or another trail before it, gives another trail.
use Prim.Native.Nat.{ℕ, zero, suc, ◌+◌, ◌*◌, ◌/◌, ◌%◌, ◌^◌, ◌≤◌, ◌<◌}
use native.Mathlib.Omega.{arith}
use mathlib.Core.Path.{◌≡◌}
use Rattle.rebuild_tables.specs.Meeting.{trail_with}

-- the same trail and another word
pub word-noted : (t w x : ℕ) → w < 2 ^ 64 → x < 2 ^ 64 → trail_with t w ≡ trail_with t x → w ≡ x
unfolding trail_with
word-noted t w x hw hx e = omega arith

-- three times a number, and what was taken off
abbrev off : ℕ → ℕ
off s = (s + s) / 2 ^ 64 + ((s + s) % 2 ^ 64 + s) / 2 ^ 64

thrice : (s : ℕ) → ((s + s) % 2 ^ 64 + s) % 2 ^ 64 + 2 ^ 64 * off s ≡ 3 * s
thrice s = omega arith

off-few : (s : ℕ) → s < 2 ^ 64 → off s ≤ 2
off-few s h = omega arith

-- 3 does not divide 2 ^ 64
cancel : (s t k l : ℕ) → k ≤ 2 → l ≤ 2 → 3 * s + 2 ^ 64 * l ≡ 3 * t + 2 ^ 64 * k → s ≡ t
cancel s t zero zero hk hl e = omega arith
cancel s t zero (suc zero) hk hl e = omega arith
cancel s t zero (suc (suc zero)) hk hl e = omega arith
cancel s t zero (suc (suc (suc l))) hk hl e = absurd (omega arith)
cancel s t (suc zero) zero hk hl e = omega arith
cancel s t (suc zero) (suc zero) hk hl e = omega arith
cancel s t (suc zero) (suc (suc zero)) hk hl e = omega arith
cancel s t (suc zero) (suc (suc (suc l))) hk hl e = absurd (omega arith)
cancel s t (suc (suc zero)) zero hk hl e = omega arith
cancel s t (suc (suc zero)) (suc zero) hk hl e = omega arith
cancel s t (suc (suc zero)) (suc (suc zero)) hk hl e = omega arith
cancel s t (suc (suc zero)) (suc (suc (suc l))) hk hl e = absurd (omega arith)
cancel s t (suc (suc (suc k))) l hk hl e = absurd (omega arith)

last_sum : (a b w : ℕ) → (a % 2 ^ 64 + w) % 2 ^ 64 ≡ (b % 2 ^ 64 + w) % 2 ^ 64 → a % 2 ^ 64 ≡ b % 2 ^ 64
last_sum a b w e = omega arith

-- the same word behind another trail
pub trail-kept : (s t w : ℕ) → s < 2 ^ 64 → t < 2 ^ 64 → trail_with s w ≡ trail_with t w → s ≡ t
unfolding trail_with
trail-kept s t w hs ht e =
    let b = last_sum ((s + s) % 2 ^ 64 + s) ((t + t) % 2 ^ 64 + t) w e in
    joined ((s + s) % 2 ^ 64 + s) ((t + t) % 2 ^ 64 + t) b (thrice s) (thrice t) (off-few s hs) (off-few t ht)
  where
    joined : (x y : ℕ) → x % 2 ^ 64 ≡ y % 2 ^ 64 → x % 2 ^ 64 + 2 ^ 64 * off s ≡ 3 * s → y % 2 ^ 64 + 2 ^ 64 * off t ≡ 3 * t → off s ≤ 2 → off t ≤ 2 → s ≡ t
    joined x y b es et fs ft = step (x % 2 ^ 64) (off s) (off t) es (rw (← b) at et) fs ft
      where
        step : (r k l : ℕ) → r + 2 ^ 64 * k ≡ 3 * s → r + 2 ^ 64 * l ≡ 3 * t → k ≤ 2 → l ≤ 2 → s ≡ t
        step r k l es et fk fl = cancel s t k l fk fl (omega arith)
