-- Every stop of one set is in another, told by their digits and by the lists of their stops.
use mathlib.Core.Path.{◌≡◌, refl, sym, ap, ◌∙◌}
use mathlib.Core.Bool.{Bool, true, false, not, ◌&&◌, and-eq-true_iff}
use mathlib.Core.Logic.{inl, inr}
use mathlib.Core.List.{List, [], ◌∷◌}
use Prim.Native.Nat.{ℕ, zero, suc, ◌*◌, ◌/◌, ◌%◌, ◌^◌, ◌≤◌, ◌<◌, min}
use native.Mathlib.Nat.{pow-suc}
use native.Mathlib.Omega.{arith}
use native.Mathlib.Decide.{dec_lt}
use lib.Bits.{bit_and, and_shr, and_step, and_le_l}
use lib.Dec.{eqb}
use borrow.Author.Tests.{eqb-true, eq-eqb}
use Rattle.model.specs.Lists.{concat, count, up_from, all_below}
use Rattle.model.specs.Plan.{used_part, decode}
use Rattle.model.specs.StopSet.{bit, contains, stops_of}
use Rattle.model.specs.Refusals.{all_live, bad_live}
use Rattle.model.proofs.Lists.{tested, one_same, one-other, count-up_from, count-up_from-out}
use Rattle.model.proofs.Counts.{all_below-below, below-all_below}
use Rattle.model.proofs.PlanForm.{concat-decode}
use Rattle.stop_set.proofs.Digits.{bit-zero, bit-suc}
use Rattle.stop_set.proofs.Laws.{count-stops, stops-small}
use Rattle.solution.specs.Sets.{SetOf}

-- two tests of which each passes where the other does
same_test : (a b : Bool) → (a ≡ true → b ≡ true) → (b ≡ true → a ≡ true) → a ≡ b
same_test true b h k = sym (h refl)
same_test false true h k = k refl
same_test false false h k = refl

-- ---- the list of live stops

pub all-live : (live : ℕ) (ss : List ℕ) → all_live live ss ≡ true → (s : ℕ) → 1 ≤ count s ss → contains s live ≡ true
all-live live [] h s k = absurd (omega arith)
all-live live (x ∷ ss) h s k =
    let p = (and-eq-true_iff (contains x live) (all_live live ss)).0 h in
    elim (tested s x) [
      | inl q ↦ rw q.0 p.0
      | inr q ↦ all-live live ss p.1 s (omega (arith, one-other s x q.0))
    ]

pub live_all : (live : ℕ) (ss : List ℕ) → ((s : ℕ) → 1 ≤ count s ss → contains s live ≡ true) → all_live live ss ≡ true
live_all live [] h = refl
live_all live (x ∷ ss) h =
    (and-eq-true_iff (contains x live) (all_live live ss)).1
    (h x (omega (arith, one_same x x refl)), live_all live ss (λ s k. h s (omega arith)))

-- lists that hold as many of each number
pub live-kept : (live : ℕ) (xs ys : List ℕ) → ((s : ℕ) → count s xs ≡ count s ys) → all_live live xs ≡ all_live live ys
live-kept live xs ys e =
    same_test _ _ (λ h. live_all live ys (λ s k. all-live live xs h s (omega (arith, e s))))
    (λ h. live_all live xs (λ s k. all-live live ys h s (omega (arith, e s))))

-- ---- digits

and-digit : (s a b : ℕ) → bit s (bit_and a b) ≡ min (bit s a) (bit s b)
and-digit s a b = ap (λ (x : ℕ). x % 2) (and_shr a b s) ∙ go (a / 2 ^ s) (b / 2 ^ s)
  where
    go : (x y : ℕ) → bit_and x y % 2 ≡ min (x % 2) (y % 2)
    go x y = omega (arith, and_step x y)

-- numbers of d digits that have the same ones
same_digits : (d a b : ℕ) → a < 2 ^ d → b < 2 ^ d → ((s : ℕ) → s < d → bit s a ≡ bit s b) → a ≡ b
same_digits zero a b h k f = omega arith
same_digits (suc d) a b h k f =
    let e : 2 ^ suc d ≡ 2 ^ d * 2 = pow-suc 2 d in
    let low : a % 2 ≡ b % 2 = sym (bit-zero a) ∙ f 0 (omega arith) ∙ bit-zero b in
    let half : a / 2 ≡ b / 2 = same_digits d (a / 2) (b / 2) (omega arith) (omega arith) (λ s g. sym (bit-suc s a) ∙ f (suc s) (omega arith) ∙ bit-suc s b) in
    omega arith

-- a set is its common part with another where the other has all its stops
pub inside-live : (part set : ℕ) → part < 2 ^ 64 → eqb (bit_and part set) part ≡ all_live set (stops_of part)
inside-live part set small = same_test _ _ only also
  where
    only : eqb (bit_and part set) part ≡ true → all_live set (stops_of part) ≡ true
    only h = live_all set (stops_of part) λ s k.
        let e : bit s (bit_and part set) ≡ bit s part = ap (bit s) (eqb-true (bit_and part set) part h) in
        let c = count-stops s part (stops-small part s k) in
        eq-eqb (bit s set) 1 (omega (arith, and-digit s part set))

    also : all_live set (stops_of part) ≡ true → eqb (bit_and part set) part ≡ true
    also h =
        eq-eqb (bit_and part set) part
        (same_digits 64 (bit_and part set) part (omega (arith, and_le_l part set)) small λ s k. digit s k (dec_lt 0 (bit s part)))
      where
        digit : (s : ℕ) → s < 64 → Dec (0 < bit s part) → bit s (bit_and part set) ≡ bit s part
        digit s k (no f) = omega (arith, and-digit s part set)
        digit s k (yes f) =
            let c : bit s set ≡ 1 = eqb-true (bit s set) 1 (all-live set (stops_of part) h s (omega (arith, count-stops s part k))) in
            omega (arith, and-digit s part set)

-- the stops of a set are in the set of those below n where they are below n
pub below-live : (n all live : ℕ) → stops_of all ≡ up_from 0 n → all_live all (stops_of live) ≡ all_below n (stops_of live)
below-live n all live e = same_test _ _ only also
  where
    found : (s : ℕ) → s < 64 → count s (up_from 0 n) ≡ bit s all
    found s k = ap (count s) (sym e) ∙ count-stops s all k

    only : all_live all (stops_of live) ≡ true → all_below n (stops_of live) ≡ true
    only h = below-all_below n (stops_of live) λ s k.
        let c : bit s all ≡ 1 = eqb-true (bit s all) 1 (all-live all (stops_of live) h s k) in
        under s (found s (stops-small live s k) ∙ c) (dec_lt s n)
      where
        under : (s : ℕ) → count s (up_from 0 n) ≡ 1 → Dec (s < n) → s < n
        under s c (yes h) = h
        under s c (no h) = absurd (omega (arith, count-up_from-out s 0 n (inr (omega arith))))

    also : all_below n (stops_of live) ≡ true → all_live all (stops_of live) ≡ true
    also h = live_all all (stops_of live) λ s k.
        eq-eqb (bit s all) 1 (sym (found s (stops-small live s k)) ∙ count-up_from s 0 n (omega arith) (omega (arith, all_below-below n (stops_of live) h s k)))

-- ---- 11, of a live set: the stops of the plan, then those of the live set

module _ (v n live placed : ℕ) (plan : List ℕ) (p : SetOf (concat (decode v plan)) placed) (t : Bool) (e : t ≡ all_live live (stops_of placed)) where
  of-plan : t ≡ all_live live (used_part v plan)
  of-plan = e ∙ live-kept live (stops_of placed) (used_part v plan) (λ s. p.stops s ∙ ap (count s) (concat-decode v plan))

  pub lacking : t ≡ false → true ≡ bad_live v n live plan
  unfolding bad_live
  lacking h = ap (λ (x : Bool). not (x && all_below n (stops_of live))) (sym h ∙ of-plan)

  pub holding : t ≡ true → (all : ℕ) → stops_of all ≡ up_from 0 n → (u : Bool) → u ≡ all_live all (stops_of live) → not u ≡ bad_live v n live plan
  unfolding bad_live
  holding h all f u k =
      ap not (k ∙ below-live n all live f) ∙ ap (λ (x : Bool). not (x && all_below n (stops_of live))) (sym h ∙ of-plan)
