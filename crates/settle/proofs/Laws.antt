-- The definitions case by case: what the functions of src/ return, and what the proofs about runs go by.
use mathlib.Core.Path.{◌≡◌, refl, sym, ap, ap₂, ◌∙◌}
use mathlib.Core.Bool.{Bool, false, cond, ◌&&◌}
use Prim.Native.Nat.{ℕ, ◌-◌, ◌≤◌, ◌<◌}
use native.Mathlib.Nat.{le_trans}
use lib.Dec.{ltb}
use lib.Ieee.{Float, binary64, of_bits, round, add, sub, mul, div, eq, lt, le}
use borrow.Author.Tests.{le-leb, lt-leb}
use Rattle.model.specs.declared.Averages.{Averages}
use Rattle.model.specs.Whole.{whole, exact}
use Rattle.model.specs.Settle.{average, averaged, ratio, settles}
use Rattle.whole.proofs.Laws.{lt-whole, sub-whole}
use Rattle.settle.specs.Rounds.{moved, AfterRound}

-- ---- the average: the new value where the old one is 0, and else the weighted one
pub weighed : (c : ℕ) (old new : Float) (b : Bool) → eq old (whole 0) ≡ b
    → average c old new ≡ cond b new (div binary64 (add binary64 (mul binary64 old (whole (c - 1))) new) (whole c))
unfolding average
weighed c old new b t = ap (λ (x : Bool). cond x new (div binary64 (add binary64 (mul binary64 old (whole (c - 1))) new) (whole c))) t

-- ---- both averages after a round
pub averaged-moved : (c : ℕ) (a : Averages) (m k : ℕ) → averaged c a m k ≡ moved c a (sub binary64 (whole m) (whole k)) (ltb k m)
unfolding averaged
averaged-moved c a m k = refl

-- what an arm of the code returns, where `new < old` is as its test found it
pub rounded : (c : ℕ) (a : Averages) (old new : Float) (b : Bool) (r : Averages) → lt new old ≡ b → r ≡ moved c a (sub binary64 old new) b → AfterRound c a old new r
rounded c a old new b r t e =
    record {
      floats = e ∙ ap (moved c a (sub binary64 old new)) (sym t);
      numbers = λ m k M K p q.
          e
          ∙ ap₂ (moved c a) (ap₂ (sub binary64) p q) (sym t ∙ ap₂ lt q p ∙ lt-whole k m K M)
          ∙ sym (averaged-moved c a m k);
    }

-- the gain as a whole number
pub gained : (c : ℕ) (a : Averages) (m k : ℕ) → m ≤ exact → k ≤ m → averaged c a m k ≡ moved c a (whole (m - k)) (ltb k m)
gained c a m k M K = averaged-moved c a m k ∙ ap (λ (d : Float). moved c a d (ltb k m)) (sub-whole m k M (le_trans K M) K)

-- ---- the rule
-- the literal 0.01
pub ratio-literal : of_bits binary64 0x3f84_7ae1_47ae_147b ≡ ratio
unfolding of_bits ratio round
ratio-literal = refl

pub early : (rounds : ℕ) (a : Averages) → rounds < 10 → settles rounds a ≡ false
unfolding settles
early rounds a h = ap (λ (t : Bool). t && le a.delta (mul binary64 a.update ratio)) (lt-leb 10 rounds h)

pub late : (rounds : ℕ) (a : Averages) → 10 ≤ rounds → settles rounds a ≡ le a.delta (mul binary64 a.update ratio)
unfolding settles
late rounds a h = ap (λ (t : Bool). t && le a.delta (mul binary64 a.update ratio)) (le-leb 10 rounds h)
