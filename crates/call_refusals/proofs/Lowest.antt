-- A call is refused with the lowest number that applies: it makes that test, the condition holds, and no test that it makes with a lower number applies.
use mathlib.Core.Path.{◌≡◌, refl}
use mathlib.Core.Bool.{Bool, true, false, cond, ◌&&◌, and-eq-true_iff}
use mathlib.Core.List.{List, [], ◌∷◌}
use Prim.Native.Nat.{ℕ, ◌≤◌, ◌<◌}
use native.Mathlib.Omega.{arith}
use lib.Dec.{eqb, ltb}
use borrow.Author.Tests.{eqb-true, eq-eqb, ne_eqb, ltb-true}
use Rattle.model.specs.Lists.{member}
use Rattle.model.specs.Refusals.{Arguments, Call, Weigh, StartPlan, TwoOpt, Rebuild, Exhaustive, Pruned, Solve, Arrive, Cancel, View, MoveStop, Roadworks, Test, tests, asked, first_number_of, refusal}
use Rattle.model.proofs.Order.{both}
use Rattle.call_refusals.proofs.Passed.{applies}

-- the numbers that a call tests rise from above n
abbrev rising : Call → ℕ → List Test → Bool
rising c n [] = true
rising c n (t ∷ ts) = cond (member t.number (asked c)) (ltb n t.number && rising c t.number ts) (rising c n ts)

-- the tests of a call have this number, its condition holds, and so does that of no lower one
pub record Lowest (c : Call) (A : Arguments) (ts : List Test) (k : ℕ) : Type 0 where
  pub made : member k (asked c) ≡ true
  pub holds : applies k A ts ≡ true
  pub first : (j : ℕ) → member j (asked c) ≡ true → applies j A ts ≡ true → k ≤ j

rises : (c : Call) → rising c 0 tests ≡ true
rises Weigh = refl
rises StartPlan = refl
rises TwoOpt = refl
rises Rebuild = refl
rises Exhaustive = refl
rises Pruned = refl
rises Solve = refl
rises Arrive = refl
rises Cancel = refl
rises View = refl
rises MoveStop = refl
rises Roadworks = refl

module _ (c : Call) (A : Arguments) where
  -- of the tests that the call makes, only one with a number above n applies
  above : (n : ℕ) (ts : List Test) → rising c n ts ≡ true → (j : ℕ) → member j (asked c) ≡ true → applies j A ts ≡ true → n < j
  above n [] p j m h = both h refl
  above n (t ∷ ts) p j m h = go (member t.number (asked c)) refl (eqb j t.number) refl p h (λ k q a. above k ts q j m a)
    where
      go : (b : Bool) → member t.number (asked c) ≡ b → (same : Bool) → eqb j t.number ≡ same
          → cond b (ltb n t.number && rising c t.number ts) (rising c n ts) ≡ true
          → cond same (t.applies A) (applies j A ts) ≡ true
          → ((k : ℕ) → rising c k ts ≡ true → applies j A ts ≡ true → k < j)
          → n < j
      go true e true f p h next =
          omega (arith, eqb-true j t.number f, ltb-true n t.number ((and-eq-true_iff (ltb n t.number) (rising c t.number ts)).0 p).0)
      go true e false f p h next =
          let q = (and-eq-true_iff (ltb n t.number) (rising c t.number ts)).0 p in
          omega (arith, ltb-true n t.number q.0, next t.number q.1 h)
      go false e true f p h next = both m (rw (eqb-true j t.number f) e)
      go false e false f p h next = next n p h

  module _ (t : Test) (ts : List Test) where
    -- the first test applies
    taken : rising c t.number ts ≡ true → member t.number (asked c) ≡ true → t.applies A ≡ true → Lowest c A (t ∷ ts) t.number
    taken r m e = record { made = m; holds = rw (eq-eqb t.number t.number refl) e; first = λ j n a. go j n (eqb j t.number) refl a }
      where
        go : (j : ℕ) → member j (asked c) ≡ true → (b : Bool) → eqb j t.number ≡ b → cond b (t.applies A) (applies j A ts) ≡ true → t.number ≤ j
        go j n true e a = omega (arith, eqb-true j t.number e)
        go j n false e a = omega (arith, above t.number ts r j n a)

    -- or does not, or is not made
    left : (member t.number (asked c) && t.applies A) ≡ false → (k : ℕ) → (k ≡ t.number → ⊥) → Lowest c A ts k → Lowest c A (t ∷ ts) k
    left e k other l =
        record {
          made = l.made;
          holds = rw (ne_eqb k t.number other) l.holds;
          first = λ j m a. go j m (eqb j t.number) refl a;
        }
      where
        go : (j : ℕ) → member j (asked c) ≡ true → (b : Bool) → eqb j t.number ≡ b → cond b (t.applies A) (applies j A ts) ≡ true → k ≤ j
        go j m true f a = both ((and-eq-true_iff (member t.number (asked c)) (t.applies A)).1 (rw (← eqb-true j t.number f) m, a)) e
        go j m false f a = l.first j m a

  lowest-of : (n : ℕ) (ts : List Test) → rising c n ts ≡ true → 0 < first_number_of c A ts → Lowest c A ts (first_number_of c A ts)
  lowest-of n [] p h = absurd (omega arith)
  lowest-of n (t ∷ ts) p h = go (member t.number (asked c)) refl (t.applies A) refl p h (λ k q g. lowest-of k ts q g)
    where
      go : (m : Bool) → member t.number (asked c) ≡ m → (b : Bool) → t.applies A ≡ b
          → cond m (ltb n t.number && rising c t.number ts) (rising c n ts) ≡ true
          → 0 < cond (m && b) t.number (first_number_of c A ts)
          → ((k : ℕ) → rising c k ts ≡ true → 0 < first_number_of c A ts → Lowest c A ts (first_number_of c A ts))
          → Lowest c A (t ∷ ts) (cond (m && b) t.number (first_number_of c A ts))
      go true e true f p h next = taken t ts ((and-eq-true_iff (ltb n t.number) (rising c t.number ts)).0 p).1 e f
      go true e false f p h next =
          let r = ((and-eq-true_iff (ltb n t.number) (rising c t.number ts)).0 p).1 in
          let l = next t.number r h in
          left t ts (rw (e, f)) (first_number_of c A ts) (λ z. omega (arith, above t.number ts r (first_number_of c A ts) l.made l.holds)) l
      go false e b f p h next =
          let l = next n p h in
          left t ts (rw e) (first_number_of c A ts) (λ z. both (rw z at l.made) e) l

  pub lowest : 0 < refusal c A → Lowest c A tests (refusal c A)
  unfolding refusal
  lowest h = lowest-of 0 tests (rises c) h
