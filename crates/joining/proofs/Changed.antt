-- A plan that is held, after one of its changes.
use Prim.Native.Nat.{ℕ, ◌+◌, ◌≤◌, ◌<◌}
use native.Mathlib.Omega.{arith}
use mathlib.Core.Path.{◌≡◌, sym, ap, ◌∙◌}
use mathlib.Core.Logic.{inl, inr}
use mathlib.Core.Bool.{false, cond}
use mathlib.Core.List.{List, [], ◌∷◌, ◌++◌}
use lib.Dec.{eqb}
use lib.ListN.{length, take, replicate, length-replicate, drop_of_length-le}
use lib.Seq.{take_at, take_all}
use Rattle.std.specs.Prelude.{Some}
use Rattle.model.specs.Lists.{concat, change, with_last, count, Once}
use Rattle.model.specs.Plan.{Plan, Route, route_of, placed, encode, decode, is_placed, Lent}
use Rattle.model.specs.Live.{put_in, placing, cancelled}
use Rattle.model.proofs.Lists.{Tested, tested, absent-count, length-change, change-same}
use Rattle.model.proofs.Live.{Added, added-at, cancelled-routes, cancelled-once}
use Rattle.model.specs.TwoOpt.{set_route}
use Rattle.model.proofs.Counts.{once-few, concat-empty}
use Rattle.model.proofs.PlanForm.{lent_length, lent-encode, decode-encode}
use Rattle.solution.specs.declared.Place.{Place}
use Rattle.solution.specs.Places.{place_of}
use Rattle.joining.specs.Places.{leaving_out}
use Rattle.joining.proofs.Leaving.{Leaves, found, taken, cancelled-below}

-- what is written to the front of the numbers is the lent form
module _ (v n : ℕ) (xs ys : List ℕ) (Q : Plan) (e : xs ≡ encode n Q) (l : Lent v n (encode n Q)) where
  pub formed : take (v + n) (xs ++ ys) ≡ encode n Q
  formed = take_at xs ys (v + n) (ap length e ∙ l.long) ∙ e

  pub held : Lent v n (take (v + n) (xs ++ ys))
  held = rw formed l

-- a stop that is on no route is put in
module _ (v n : ℕ) (xs : List ℕ) (L : Lent v n xs) (k i s : ℕ) (among : k < v) (known : s < n) (off : is_placed s (decode v xs) ≡ false) where
  added : Added s (decode v xs) (placing s (decode v xs) k i)
  added = added-at k i s (decode v xs) (omega (arith, lent_length v n xs L))

  none : count s (concat (decode v xs)) ≡ 0
  none = absent-count s (concat (decode v xs)) off

  once : Once (concat (placing s (decode v xs) k i))
  once x = go (tested x s) (added.stops x)
    where
      go : Tested x s → count x (concat (placing s (decode v xs) k i)) ≡ count x (concat (decode v xs)) + cond (eqb x s) 1 0
          → count x (concat (placing s (decode v xs) k i)) ≤ 1
      go (inl q) e = let e' = rw q.1 at e in let z : count x (concat (decode v xs)) ≡ 0 = rw q.0 none in omega (arith, e', z)
      go (inr q) e = let e' = rw q.1 at e in omega (arith, e', L.once x)

  below : (x : ℕ) → 1 ≤ count x (concat (placing s (decode v xs) k i)) → x < n
  below x h = go (tested x s) (added.stops x)
    where
      go : Tested x s → count x (concat (placing s (decode v xs) k i)) ≡ count x (concat (decode v xs)) + cond (eqb x s) 1 0 → x < n
      go (inl q) e = omega (arith, q.0, known)
      go (inr q) e = let e' = rw q.1 at e in L.below x (omega (arith, e', h))

  -- some place of the plan is unused
  pub room : placed (decode v xs) < n
  room = omega (arith, added.more, once-few n (concat (placing s (decode v xs) k i)) once below)

  pub inserted : Lent v n (encode n (placing s (decode v xs) k i))
  inserted = lent-encode v n (placing s (decode v xs) k i) (added.routes ∙ lent_length v n xs L) once below

-- at the end of its route
put-last : (i s : ℕ) (r : Route) → i ≡ length r → put_in i s r ≡ r ++ (s ∷ [])
put-last i s r e = rw (take_all i r (omega arith), drop_of_length-le r {i = i} (omega arith))

pub end-placing : (i k s : ℕ) (P : Plan) → i ≡ length (route_of P k) → placing s P k i ≡ with_last k s P
end-placing i k s P e = change-same k (put_in i s) (λ r. r ++ (s ∷ [])) P [] (put-last i s (route_of P k) e)

-- a stop leaves its place
module _ (v n : ℕ) (xs : List ℕ) (L : Lent v n xs) (s : ℕ) (x : Place) (e : place_of s (decode v xs) ≡ Some x) where
  leaves : Leaves s (decode v xs) x.vehicle x.position
  leaves = found s (decode v xs) L.once x (sym e)

  pub there : (x.vehicle < v) × (x.position < length (route_of (decode v xs) x.vehicle))
  there = (omega (arith, leaves.among, lent_length v n xs L), leaves.within)

  pub gone : (ys : List ℕ) → ys ≡ encode n (change x.vehicle (leaving_out x.position) (decode v xs)) → ys ≡ encode n (cancelled s (decode v xs))
  gone ys q = taken n s (decode v xs) ys x.vehicle x.position leaves q

  pub left : Lent v n (encode n (cancelled s (decode v xs)))
  left =
      lent-encode v n (cancelled s (decode v xs)) (cancelled-routes s (decode v xs) ∙ lent_length v n xs L)
      (cancelled-once s (decode v xs) L.once) (cancelled-below n s (decode v xs) L.once L.below)

-- a plan of empty routes
pub blank-lent : (v n : ℕ) → Lent v n (encode n (replicate v []))
blank-lent v n =
    let none : (s : ℕ) → count s (concat (replicate {A = Route} v [])) ≡ 0 = λ s. ap (count s) (concat-empty v) in
    lent-encode v n (replicate v []) (length-replicate v []) (λ s. omega (arith, none s)) (λ s h. absurd (omega (arith, none s)))

-- what is lent has at most n stops on routes
pub placed-few : (v n : ℕ) (P : Plan) → length P ≡ v → Lent v n (encode n P) → placed P ≤ n
placed-few v n P e L = let few = once-few n (concat (decode v (encode n P))) L.once L.below in rw (decode-encode n P v e) at few

-- a plan that two routes are replaced in has as many routes as before
pub replaced-few : (v n : ℕ) (P : Plan) (a b : ℕ) (q r : Route) → length P ≡ v → Lent v n (encode n (set_route b r (set_route a q P)))
    → placed (set_route b r (set_route a q P)) ≤ n
replaced-few v n P a b q r e = placed-few v n (set_route b r (set_route a q P)) (length-change b (λ _. r) (set_route a q P) ∙ length-change a (λ _. q) P ∙ e)
