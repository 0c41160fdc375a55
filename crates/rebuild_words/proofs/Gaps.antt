-- The regions of vehicles, and the routes of the plan that a word stands for.
use Prim.Native.Nat.{ℕ, suc, ◌+◌, ◌/◌, ◌%◌, ◌≤◌, ◌<◌}
use native.Mathlib.Nat.{add-zero}
use native.Mathlib.Numerals.{add-one}
use native.Mathlib.Omega.{arith}
use mathlib.Core.Path.{◌≡◌, refl, sym, ap, ap₂, ◌∙◌, subst}
use mathlib.Core.Bool.{Bool, false, true≢false}
use mathlib.Core.Logic.{inl, inr}
use mathlib.Core.List.{List, [], ◌∷◌, ◌++◌, append_assoc, append-nil}
use lib.Dec.{eqb}
use lib.ListN.{length, get_or, take, drop, set, length-append, length-set, take-append-drop}
use lib.Seq.{drop-cons, set_at, take-suc, take_all}
use borrow.Author.Tests.{eq-eqb, ne_eqb, eqb-true}
use Rattle.std.specs.Prelude.{Some, None, position}
use Rattle.std.specs.List.{position_or_len}
use Rattle.std.proofs.lemmas.Grind.{common_steps}
use Rattle.std.proofs.lemmas.List.Quantifiers.{position-Some}
use Rattle.std.proofs.lemmas.List.Sums.{fails_before_first}
use Rattle.model.specs.Lists.{In}
use Rattle.model.specs.Plan.{Plan, Route, route_of}
use Rattle.model.specs.declared.Region.{Region}
use Rattle.model.specs.Region.{vehicles_of, Stretch, Stretches}
use Rattle.pasting.specs.Put.{put}
use Rattle.pasting.proofs.Put.{put-head, put-put}
use Rattle.rebuild_words.specs.Words.{Word, in_gap, plan_of}
use Rattle.rebuild_words.specs.Gaps.{refilled, Within, Pasted}
use Rattle.rebuild_words.proofs.Plans.{in-get_or, in-append, route-plan_of, other-plan_of}

-- ---- the routes of the plan of a word

-- whether a region is of this vehicle
abbrev pub is_of : ℕ → Region → Bool
is_of k g = eqb g.vehicle k

-- a vehicle with no region stands nowhere among the regions' vehicles
unnamed : (k : ℕ) (gs : List Region) (d : Region) → ((i : ℕ) → i < length gs → is_of k (get_or gs i d) ≡ false) → In k (vehicles_of gs) → ⊥
unnamed k [] d f h = absurd h
unnamed k (g ∷ gs) d f (inl e) = true≢false (sym (eq-eqb g.vehicle k (sym e)) ∙ f 0 (omega arith))
unnamed k (g ∷ gs) d f (inr h) = unnamed k gs d (λ i lt. f (suc i) (omega arith)) h

module _ (P : Plan) (gs : List Region) (d : Region) (st : Stretches P gs) (w : Word) where
  -- region r is a stretch
  pub stretch-at : (r : ℕ) → r < length gs → Stretch P (get_or gs r d)
  stretch-at r h = st.each (get_or gs r d) (in-get_or gs r d h)

  module _ (k : ℕ) where
    -- the region that a vehicle has
    module _ (r : ℕ) (e : position (is_of k) gs ≡ Some r) where
      pub own-there : r < length gs
      own-there = (position-Some (is_of k) gs r d e).0

      own-vehicle : (get_or gs r d).vehicle ≡ k
      own-vehicle = eqb-true (get_or gs r d).vehicle k (position-Some (is_of k) gs r d e).1

      pub own-within : Within (get_or gs r d) (route_of P k)
      own-within =
          let s = stretch-at r own-there in
          (s.ordered, subst (λ (v : ℕ). (get_or gs r d).to ≤ length (route_of P v)) own-vehicle s.within)

      pub route-refilled : route_of (plan_of P gs w) k ≡ refilled (get_or gs r d) (in_gap r w) (route_of P k)
      route-refilled =
          subst (λ (v : ℕ). route_of (plan_of P gs w) v ≡ refilled (get_or gs r d) (in_gap r w) (route_of P v)) own-vehicle
          (route-plan_of P gs d st w r own-there)

    -- or it has none
    pub route-stays : position (is_of k) gs ≡ None → route_of (plan_of P gs w) k ≡ route_of P k
    route-stays e =
        let past : length gs ≤ position_or_len (is_of k) gs = grind (arith, common_steps) in
        other-plan_of P gs d st w k (unnamed k gs d (λ i lt. fails_before_first (is_of k) gs i d (omega arith)))

-- ---- what is written of a gap

-- one number more is put
pub put-more : (d xs : List ℕ) (at x : ℕ) → at + length xs < length d → set (put d at xs) (at + length xs) x ≡ put d at (xs ++ x ∷ [])
put-more d xs at x h =
    let j : ℕ = at + length xs in
    let rest : List ℕ = drop (suc j) d in
    let m : at + length (xs ++ x ∷ []) ≡ suc (at + length xs) = omega (arith, length-append xs (x ∷ [])) in
    ap (λ l. set (take at d ++ (xs ++ l)) j x) (drop-cons d j 0 h)
    ∙ ap (λ l. set l j x) (sym (append_assoc (take at d) xs (get_or d j 0 ∷ rest)))
    ∙ set_at (take at d ++ xs) (get_or d j 0) rest x j (put-head d xs at (omega arith))
    ∙ rw m (simp append_assoc)

-- the first i placements of a word are passed
pub record Passed (d : List ℕ) (at : ℕ) (w : Word) (q i : ℕ) (to : List ℕ) (end : ℕ) : Type 0 where
  pub up_to : i ≤ length w
  pub holds : to ≡ put d at (in_gap q (take i w))
  pub ends : end ≡ at + length (in_gap q (take i w))
  pub long : length to ≡ length d

module _ (d : List ℕ) (at : ℕ) (w : Word) (q : ℕ) where
  pub passed_none : Passed d at w q 0 d at
  unfolding in_gap
  passed_none = record { up_to = omega arith; holds = sym (put-none d at); ends = omega arith; long = refl }
    where
      put-none : (d : List ℕ) (at : ℕ) → put d at [] ≡ d
      put-none d at = rw add-zero (take-append-drop at d)

  module _ (i : ℕ) (to : List ℕ) (end : ℕ) (p : Passed d at w q i to end) (h : i < length w) where
    more : in_gap q (take (i + 1) w) ≡ in_gap q (take i w) ++ in_gap q (get_or w i 0 ∷ [])
    more = ap (λ j. in_gap q (take j w)) (add-one i) ∙ ap (in_gap q) (take-suc w i 0 h) ∙ in-append q (take i w) (get_or w i 0 ∷ [])

    all-parts : length (in_gap q (take (i + 1) w)) ≤ length (in_gap q w)
    all-parts =
        omega (
          arith,
          ap length (ap (in_gap q) (sym (take-append-drop (i + 1) w)) ∙ in-append q (take (i + 1) w) (drop (i + 1) w)),
          length-append (in_gap q (take (i + 1) w)) (in_gap q (drop (i + 1) w)),
        )

    module _ (e : get_or w i 0 / 64 ≡ q) where
      here : in_gap q (take (i + 1) w) ≡ in_gap q (take i w) ++ get_or w i 0 % 64 ∷ []
      unfolding in_gap
      here = more ∙ rw (eq-eqb (get_or w i 0 / 64) q e)

      -- there is room for one more
      pub passed-room : at + length (in_gap q w) ≤ length d → end < length to
      passed-room r = omega (arith, all-parts, ap length here, length-append (in_gap q (take i w)) (get_or w i 0 % 64 ∷ []), p.ends, p.long)

      pub passed_here : at + length (in_gap q w) ≤ length d → (to' : List ℕ) (end' : ℕ) → to' ≡ set to end (get_or w i 0 % 64) → end' ≡ end + 1
          → Passed d at w q (i + 1) to' end'
      passed_here r to' end' et ee = rw (et, ee) (record {
        up_to = omega arith;
        holds =
            ap₂ (λ (l : List ℕ) (j : ℕ). set l j (get_or w i 0 % 64)) p.holds p.ends
            ∙ put-more d (in_gap q (take i w)) at (get_or w i 0 % 64) (omega (arith, passed-room r, p.ends, p.long))
            ∙ ap (put d at) (sym here);
        ends = omega (arith, ap length here, length-append (in_gap q (take i w)) (get_or w i 0 % 64 ∷ []), p.ends);
        long = length-set to end (get_or w i 0 % 64) ∙ p.long;
      })

    pub passed-other : (get_or w i 0 / 64 ≡ q → ⊥) → (to' : List ℕ) (end' : ℕ) → to' ≡ to → end' ≡ end → Passed d at w q (i + 1) to' end'
    unfolding in_gap
    passed-other f to' end' et ee =
        let e : in_gap q (take (i + 1) w) ≡ in_gap q (take i w) = more ∙ rw (ne_eqb (get_or w i 0 / 64) q f, append-nil) in
        rw (et, ee) record { up_to = omega arith; holds = rw e p.holds; ends = rw e p.ends; long = p.long }

  pub passed-all : (i : ℕ) (to : List ℕ) (end : ℕ) → Passed d at w q i to end → length w ≤ i → Pasted d at (in_gap q w) to end
  passed-all i to end p h =
      let e : take i w ≡ w = take_all i w h in
      record { ends = rw e at p.ends; holds = rw e at p.holds }

-- ---- what is written of a route

module _ (d : List ℕ) (at : ℕ) (x : List ℕ) (route : Route) (g : Region) where
  abbrev head : List ℕ
  head = take g.from route

  abbrev tail : List ℕ
  tail = drop g.to route

  -- there is room for the three parts
  pub parts-room : at + length (refilled g x route) ≤ length d → at + length head + length x + length tail ≤ length d
  parts-room h = omega (arith, length-append head (x ++ tail), length-append x tail)

  -- the three parts are pasted one after another
  pub parts-pasted : at ≤ length d → (d₁ d₂ d₃ t : List ℕ) (a b e : ℕ) → a ≡ at + length head → d₁ ≡ put d at head
      → Pasted d₁ a x d₂ b → t ≡ tail → e ≡ b + length t → d₃ ≡ put d₂ b t → Pasted d at (refilled g x route) d₃ e
  parts-pasted k d₁ d₂ d₃ t a b e ea e₁ p et ee e₃ =
      let two : d₂ ≡ put d at (head ++ x) = p.holds ∙ rw (e₁, ea) (put-put d head x at k) in
      let eb : b ≡ at + length (head ++ x) = omega (arith, p.ends, length-append head x) in
      let all : (head ++ x) ++ tail ≡ refilled g x route = append_assoc head x tail in
      record {
        ends = omega (arith, ap length et, ap length all, length-append (head ++ x) tail);
        holds = e₃ ∙ rw (two, eb, et) (put-put d (head ++ x) tail at k) ∙ ap (put d at) all;
      }
