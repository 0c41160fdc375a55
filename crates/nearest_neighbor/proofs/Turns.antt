-- The start plan's definition: the vehicles take their turns until nothing is left, and no stop is lost or placed twice.
use mathlib.Core.Path.{◌≡◌, refl, sym, ap, ◌∙◌, subst}
use mathlib.Core.Logic.{inr}
use mathlib.Core.Bool.{cond}
use mathlib.Core.List.{List, [], ◌∷◌, ◌++◌}
use Prim.Native.Nat.{ℕ, zero, suc, ◌+◌, ◌%◌, ◌≤◌, ◌<◌}
use native.Mathlib.Nat.{mod-lt}
use native.Mathlib.Decide.{dec_lt}
use native.Mathlib.Omega.{arith}
use lib.Dec.{eqb}
use lib.ListN.{length, replicate, length-replicate}
use Rattle.model.specs.Lists.{concat, without, with_last, up_from, count, Once}
use Rattle.model.specs.Job.{Job, vehicle_count, stop_count, start_of}
use Rattle.model.specs.Plan.{Plan, route_of}
use Rattle.model.specs.Nearest.{last_location, nearest, take_turns, start_for, start_plan}
use Rattle.model.proofs.Lists.{count-append, count-member, length_without, count-without, length-change, length-up_from, count-up_from, count-up_from-out, once-up_from}
use Rattle.model.proofs.Counts.{Below, count-change, concat-empty}
use Rattle.nearest_neighbor.proofs.Order.{nearest_in}

-- a stop more at the end of route k
pub count-added : (x k s : ℕ) (P : Plan) → k < length P → count x (concat (with_last k s P)) ≡ count x (concat P) + cond (eqb x s) 1 0
count-added x k s P h = omega (arith, count-change x k (λ r. r ++ (s ∷ [])) P h, count-append x (route_of P k) (s ∷ []))

module _ (J : Job) where
  turns-length : (m k : ℕ) (left : List ℕ) (P : Plan) → length (take_turns J m k left P) ≡ length P
  unfolding take_turns
  turns-length zero k left P = refl
  turns-length (suc m) k left P = turns-length m _ _ _ ∙ length-change k _ P

  turns-count : (x m k : ℕ) (left : List ℕ) (P : Plan) → length left ≡ m → k < length P → length P ≡ vehicle_count J
      → count x (concat (take_turns J m k left P)) ≡ count x (concat P) + count x left
  unfolding take_turns
  turns-count x zero k [] P e h l = omega arith
  turns-count x zero k (s ∷ ss) P e h l = absurd (omega arith)
  turns-count x (suc m) k [] P e h l = absurd (omega arith)
  turns-count x (suc m) k (s ∷ ss) P e h l =
      let from = last_location J (start_of J k) (route_of P k) in
      let t = nearest J from (s ∷ ss) in
      let there = count-member t (s ∷ ss) (nearest_in J from s ss) in
      let few : length (without t (s ∷ ss)) ≡ m = omega (arith, length_without t (s ∷ ss) there) in
      let many : length (with_last k t P) ≡ length P = length-change k _ P in
      let next : suc k % vehicle_count J < length (with_last k t P) =
      subst (λ (v : ℕ). suc k % vehicle_count J < v) (sym (many ∙ l)) (mod-lt (suc k) (omega arith))
      in
      omega (
        arith,
        turns-count x m (suc k % vehicle_count J) (without t (s ∷ ss)) (with_last k t P) few next (many ∙ l),
        count-added x k t P h,
        count-without t x (s ∷ ss) there,
      )

  -- ---- the start plan: a route for each vehicle, and where there is a vehicle each stop once

  pub start-routes : length (start_plan J) ≡ vehicle_count J
  unfolding start_plan
  start-routes = go (vehicle_count J)
    where
      go : (v : ℕ) → length (start_for J v) ≡ v
      go zero = refl
      go (suc v) = turns-length (stop_count J) 0 (up_from 0 (stop_count J)) (replicate (suc v) []) ∙ length-replicate (suc v) []

  pub start-all : 0 < vehicle_count J → (s : ℕ) → count s (concat (start_plan J)) ≡ count s (up_from 0 (stop_count J))
  unfolding start_plan
  start-all h s = go (vehicle_count J) refl h
    where
      go : (v : ℕ) → vehicle_count J ≡ v → 0 < v → count s (concat (start_for J v)) ≡ count s (up_from 0 (stop_count J))
      go zero e k = absurd (omega arith)
      go (suc v) e k =
          omega (
            arith,
            turns-count s (stop_count J) 0 (up_from 0 (stop_count J)) (replicate (suc v) []) (length-up_from 0 (stop_count J)) (omega arith)
                (length-replicate (suc v) [] ∙ sym e),
            ap (count s) (concat-empty (suc v)),
          )

  pub start-placed : 0 < vehicle_count J → (s : ℕ) → s < stop_count J → count s (concat (start_plan J)) ≡ 1
  start-placed h s k = start-all h s ∙ count-up_from s 0 (stop_count J) (omega arith) (omega arith)

  -- without a vehicle there is no route
  pub start_none : vehicle_count J ≡ 0 → start_plan J ≡ []
  unfolding start_plan
  start_none e = rw e

  start-few : (s : ℕ) → count s (concat (start_plan J)) ≤ count s (up_from 0 (stop_count J))
  start-few s =
      elim (dec_lt 0 (vehicle_count J)) [
        | yes h ↦ omega (arith, start-all h s)
        | no h ↦ omega (arith, ap (λ (P : Plan). count s (concat P)) (start_none (omega arith)))
      ]

  -- and no stop that there is not
  pub start-beyond : (s : ℕ) → stop_count J ≤ s → count s (concat (start_plan J)) ≡ 0
  start-beyond s h = omega (arith, start-few s, count-up_from-out s 0 (stop_count J) (inr (omega arith)))

  pub start-once : Once (concat (start_plan J))
  start-once s = omega (arith, start-few s, once-up_from 0 (stop_count J) s)

  pub start-below : Below (stop_count J) (concat (start_plan J))
  start-below s h = elim (dec_lt s (stop_count J)) [ yes k ↦ k | no k ↦ absurd (omega (arith, start-beyond s (omega arith))) ]
