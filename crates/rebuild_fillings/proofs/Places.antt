-- The walk by places: the stops that are drained stand at the places 1, 2 and so on, and a filling by places is that of their stops.
use Prim.Native.Nat.{ℕ, zero, suc, ◌+◌, ◌-◌, ◌≤◌, ◌<◌}
use native.Mathlib.Omega.{arith}
use mathlib.Core.Path.{◌≡◌, refl, sym, ap, ap₂, ◌∙◌}
use mathlib.Core.Logic.{◌⊎◌, inl, inr, ⊎_elim}
use mathlib.Core.List.{List, [], ◌∷◌, ◌++◌, map, map-map, append_assoc, append-nil}
use lib.ListN.{length, get_or, length-append}
use borrow.Author.Tests.{eq-eqb, ne_eqb}
use Rattle.model.specs.Lists.{In, up_from, without, for_each, count, concat, Once}
use Rattle.model.specs.Plan.{Plan}
use Rattle.model.specs.declared.Region.{Region}
use Rattle.model.specs.Region.{drained_from, drained}
use Rattle.model.specs.Rebuild.{fillings, replaced, arrangements}
use Rattle.model.proofs.Lists.{map-append, tested, count-member, count-without, count-append, concat-append, once-place, length-up_from}
use Rattle.model.proofs.Counts.{length-kept}
use Rattle.model.proofs.Members.{count-in}
use Rattle.model.specs.Region.{Stretches}
use Rattle.model.proofs.Arrangements.{replaced-same}
use Rattle.model.proofs.Fillings.{shorter, add_first, empty, fillings-step, map_same, for_each-same, map-for_each, for_each-map}
use Rattle.rebuild_fillings.specs.Walk.{Filling, plans_from, stop_at, named, plan_at, own_from, own, Standing}
use Rattle.rebuild_fillings.proofs.Walk.{fillings_from-none}

-- ---- other names for the stops

-- f takes different numbers of a list to different ones
abbrev Tells : (ℕ → ℕ) → List ℕ → Type 0
Tells f xs = (x y : ℕ) → In x xs → In y xs → f x ≡ f y → x ≡ y

in_without : (s y : ℕ) (xs : List ℕ) → In y (without s xs) → In y xs
in_without s y [] h = h
in_without s y (x ∷ xs) h = elim (tested s x) [
  | inl e ↦ inr (rw e.1 at h)
  | inr e ↦ ⊎_elim (λ a. inl a) (λ b. inr (in_without s y xs b)) (let k : (y ≡ x) ⊎ In y (without s xs) = rw e.1 at h in k)
]

without-map : (f : ℕ → ℕ) (s : ℕ) (xs : List ℕ) → ((x : ℕ) → In x xs → f s ≡ f x → s ≡ x) → without (f s) (map f xs) ≡ map f (without s xs)
without-map f s [] t = refl
without-map f s (x ∷ xs) t = elim (tested s x) [
  | inl e ↦ rw (e.1, eq-eqb (f s) (f x) (ap f e.0))
  | inr e ↦ rw (e.1, ne_eqb (f s) (f x) (λ h. e.0 (t x (inl refl) h)), without-map f s xs (λ y i. t y (inr i)))
]

add_first-map : (f : ℕ → ℕ) (s : ℕ) (xs : Filling) → add_first (f s) (map (map f) xs) ≡ map (map f) (add_first s xs)
add_first-map f s [] = refl
add_first-map f s (x ∷ xs) = refl

module _ (f : ℕ → ℕ) where
  abbrev each : Filling → Filling
  each xs = map (map f) xs

  -- fillings with other names for the stops, in the same order
  pub fillings-map : (n g : ℕ) (left : List ℕ) → g + length left < n → Tells f left → fillings g (map f left) ≡ map each (fillings g left)
  fillings-map zero g left h t = absurd (omega arith)
  fillings-map (suc n) zero left h t = refl
  fillings-map (suc n) (suc g) left h t =
      fillings-step g (map f left)
      ∙ ap₂ ◌++◌
      (ap (map empty) (fillings-map n g left (omega arith) t) ∙ map-map empty each (fillings g left) ∙ sym (map-map each empty (fillings g left)))
      (for_each-map f left (λ s. map (add_first s) (fillings (suc g) (without s (map f left))))
      ∙ for_each-same left _ _
      (λ s i. ap (λ l. map (add_first (f s)) (fillings (suc g) l)) (without-map f s left (λ x j. t s x i j))
      ∙ ap (map (add_first (f s)))
      (fillings-map n (suc g) (without s left) (omega (arith, shorter s left i)) (λ x y j k. t x y (in_without s x left j) (in_without s y left k)))
      ∙ stop s (fillings (suc g) (without s left)))
      ∙ sym (map-for_each each left (λ s. map (add_first s) (fillings (suc g) (without s left)))))
      ∙ sym (map-append each (map empty (fillings g left)) (for_each left (λ s. map (add_first s) (fillings (suc g) (without s left)))))
      ∙ ap (map each) (sym (fillings-step g left))
    where
      stop : (s : ℕ) (xss : List Filling) → map (add_first (f s)) (map each xss) ≡ map each (map (add_first s) xss)
      stop s xss = map-map (add_first (f s)) each xss ∙ map_same xss _ _ (λ xs _. add_first-map f s xs) ∙ sym (map-map each (add_first s) xss)

-- ---- the places of a list's stops

pub in-up_from : (x a k : ℕ) → In x (up_from a k) → (a ≤ x) × (x < a + k)
in-up_from x a zero h = absurd h
in-up_from x a (suc k) (inl e) = omega arith
in-up_from x a (suc k) (inr h) = let r = in-up_from x (suc a) k h in omega arith

first-at : (pre : List ℕ) (x : ℕ) (xs : List ℕ) → get_or (pre ++ x ∷ xs) (length pre) 0 ≡ x
first-at [] x xs = refl
first-at (y ∷ pre) x xs = first-at pre x xs

-- of a part of the list
stops-from : (pre x post : List ℕ) → map (stop_at (pre ++ (x ++ post))) (up_from (suc (length pre)) (length x)) ≡ x
stops-from pre [] post = refl
stops-from pre (y ∷ x) post =
    let e : suc (length pre) - 1 ≡ length pre = omega arith in
    let k : length (pre ++ y ∷ []) ≡ suc (length pre) = rw length-append (omega arith) in
    ap₂ ◌∷◌ (rw (e, first-at pre y (x ++ post)))
    (ap₂ (λ l a. map (stop_at l) (up_from (suc a) (length x))) (sym (append_assoc pre (y ∷ []) (x ++ post))) (sym k) ∙ stops-from (pre ++ y ∷ []) x post)

-- the places' stops are the list
pub stops-all : (all : List ℕ) → map (stop_at all) (up_from 1 (length all)) ≡ all
stops-all all = ap (λ l. map (stop_at l) (up_from 1 (length all))) (sym (append-nil all)) ∙ stops-from [] all []

named-from : (pre : List ℕ) (xs : List (List ℕ)) → named (pre ++ concat xs) (own_from (suc (length pre)) xs) ≡ xs
named-from pre [] = refl
named-from pre (x ∷ xs) =
    let k : suc (length pre) + length x ≡ suc (length (pre ++ x)) = rw length-append (omega arith) in
    ap₂ ◌∷◌ (stops-from pre x (concat xs))
    (ap₂ (λ l a. named l (own_from a xs)) (sym (append_assoc pre x (concat xs))) k ∙ named-from (pre ++ x) xs)

-- the regions' own stops put back give the plan
pub own-plan : (P : Plan) (gs : List Region) → Stretches P gs → plan_at P gs (own P gs) ≡ P
own-plan P gs st =
    ap (replaced P gs) (named-from [] (map (drained_from P) gs)) ∙ replaced-same P gs (λ g i. (st.each g i).ordered)

stops-tell : (all : List ℕ) → Once all → Tells (stop_at all) (up_from 1 (length all))
stops-tell all o x y i j e =
    let a = in-up_from x 1 (length all) i in
    let b = in-up_from y 1 (length all) j in
    omega (arith, once-place all (x - 1) (y - 1) o (omega arith) (omega arith) e)

-- the fillings by places
pub named-fillings : (g : ℕ) (all : List ℕ) → Once all → map (named all) (fillings g (up_from 1 (length all))) ≡ fillings g all
named-fillings g all o =
    sym (fillings-map (stop_at all) (suc (g + length (up_from 1 (length all)))) g (up_from 1 (length all)) (omega arith) (stops-tell all o))
    ∙ ap (fillings g) (stops-all all)

-- the plans that are met by places are the arrangements, in the order of the definition
module _ (P : Plan) (gs : List Region) (o : Once (drained P gs)) where
  pub placed-all : plans_from (plan_at P gs) (length gs) 0 (up_from 1 (length (drained P gs))) [] [] ≡ arrangements P gs
  unfolding plans_from arrangements
  placed-all =
      let all : List ℕ = drained P gs in
      ap (map (plan_at P gs)) (fillings_from-none (length gs) (up_from 1 (length all)))
      ∙ sym (map-map (replaced P gs) (named all) (fillings (length gs) (up_from 1 (length all))))
      ∙ ap (map (replaced P gs)) (named-fillings (length gs) all o)

-- ---- where a call stands

pub standing-start : (m : ℕ) → Standing m 0 (up_from 1 m) [] []
standing-start m = record { gaps = refl; each = λ i. omega arith }

module _ (m q : ℕ) (left : List ℕ) (done : Filling) (here : List ℕ) (st : Standing m q left done here) where
  -- the next gap is opened
  pub standing-next : Standing m (q + 1) left (done ++ here ∷ []) []
  standing-next = record {
    gaps = rw length-append (omega (arith, st.gaps));
    each = λ i.
        let c : count i (concat (done ++ here ∷ [])) ≡ count i (concat done) + count i here = simp (concat-append, append-nil, count-append) in
        omega (arith, st.each i);
  }

  -- a stop more is placed
  pub standing-stop : (s : ℕ) → 1 ≤ count s left → Standing m q (without s left) done (here ++ s ∷ [])
  standing-stop s h = record {
    gaps = st.gaps;
    each = λ i. omega (arith, st.each i, count-append i here (s ∷ []), count-without s i left (count-member s left h));
  }

  -- how many are placed
  pub standing-size : length (concat done) + (length here + length left) ≡ m
  standing-size =
      let e : length (concat done ++ (here ++ left)) ≡ m =
      length-kept (concat done ++ (here ++ left)) (up_from 1 m) (λ i. simp count-append (st.each i)) ∙ length-up_from 1 m
      in
      simp length-append at e

  -- every number placed or left is a place
  pub standing-place : (i : ℕ) → 1 ≤ count i (concat done) + (count i here + count i left) → (1 ≤ i) × (i ≤ m)
  standing-place i h = let r = in-up_from i 1 m (count-in i (up_from 1 m) (omega (arith, st.each i))) in omega arith
