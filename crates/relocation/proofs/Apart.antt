-- The difference of two numbers below 2 ^ 63, as an i64 has it.
use Prim.Native.Nat.{ℕ, zero, suc, ◌+◌, ◌-◌, ◌^◌, ◌<◌}
use native.Mathlib.Omega.{arith}
use mathlib.Core.Path.{◌≡◌, refl, ◌∙◌}
use mathlib.Core.Bool.{Bool, true, false, cond}
use lib.Dec.{ltb}
use lib.IntN.{ℤ, pos, negsuc, sub_ℕ, ◌-ℤ◌}
use lib.Signed.{mag}
use mir.Syntax.{w64}
use mir.Val.{SFits, to_z, of_z}
use mir.ValLaws.{to_z-of_z}
use borrow.Author.Tests.{ltb-true, lt-ltb}

minus_is : (a b : ℕ) → pos a -ℤ pos b ≡ sub_ℕ a b
minus_is a zero = let e : a + 0 ≡ a - 0 = omega arith in rw e (least (ltb a 0) refl)
  where
    least : (t : Bool) → ltb a 0 ≡ t → pos (a - 0) ≡ cond t (negsuc (0 - suc a)) (pos (a - 0))
    least true h = absurd (omega (arith, ltb-true a 0 h))
    least false h = refl
minus_is a (suc b) = refl

apart-small : (a b c : ℕ) → a < c → b < c → mag (sub_ℕ a b) < c
apart-small a b c h k = go (ltb a b)
  where
    go : (t : Bool) → mag (cond t (negsuc (b - suc a)) (pos (a - b))) < c
    go true = omega arith
    go false = omega arith

-- the bits of a number below 2 ^ 63, read with a sign
to_z-small : (n : ℕ) → n < 2 ^ 63 → to_z w64 n ≡ pos n
to_z-small n h = rw (lt-ltb n (2 ^ 63) h)

pub minus-bits : (a b : ℕ) → a < 2 ^ 63 → b < 2 ^ 63 → to_z w64 a -ℤ to_z w64 b ≡ sub_ℕ a b
minus-bits a b h k = rw (to_z-small a h, to_z-small b k) (minus_is a b)

pub minus-fits : (a b : ℕ) → a < 2 ^ 63 → b < 2 ^ 63 → SFits w64 (to_z w64 a -ℤ to_z w64 b)
minus-fits a b h k = rw (minus-bits a b h k) (record { sfits = apart-small a b (2 ^ 63) h k })

-- such a difference is the same after it has been stored
pub apart-stored : (a b : ℕ) (z : ℤ) → a < 2 ^ 63 → b < 2 ^ 63 → z ≡ sub_ℕ a b → to_z w64 (of_z w64 z) ≡ sub_ℕ a b
apart-stored a b z h k e = to_z-of_z w64 z (rw e (record { sfits = apart-small a b (2 ^ 63) h k })) ∙ e
