-- The pruned solver's search: a step of it, and its two loops, over the stops that are left and over the vehicles.
use Prim.Native.Nat.{ℕ, suc, ◌+◌, ◌-◌, ◌≤◌, ◌<◌}
use native.Mathlib.Omega.{arith}
use native.Mathlib.Decide.{dec_lt}
use native.Mathlib.Nat.{sub-zero}
use native.Mathlib.Numerals.{add-one}
use mathlib.Core.Path.{◌≡◌, refl, sym, ap, ◌∙◌}
use mathlib.Core.Logic.{inr}
use mathlib.Core.Bool.{Bool, true, false, cond}
use mathlib.Core.List.{List, [], ◌∷◌, ◌++◌}
use lib.Dec.{ltb}
use lib.Ieee.{Float, binary64, add}
use lib.ListN.{length, length-append}
use Rattle.model.specs.Lists.{In, concat, count, without, up_from, for_each}
use Rattle.model.specs.Whole.{whole, amount, IsWhole}
use Rattle.model.specs.Job.{Job, vehicle_count}
use Rattle.model.specs.Plan.{route_of, placed, is_placed}
use Rattle.model.specs.Plan as form
use Rattle.model.specs.StopSet.{stops_of, excluding}
use Rattle.model.specs.Cost.{cost, driving_cost, missed_cost}
use Rattle.model.specs.Rebuild.{better, choose, appended, reached}
use Rattle.model.proofs.Lists.{one_same, count-append, count-member, count-absent, count-without, length_without, length-up_from, length-change, once-up_from, count-up_from-out}
use Rattle.model.proofs.Counts.{count-change, length-kept}
use Rattle.model.proofs.Members.{in_count}
use Rattle.model.proofs.PlanForm.{lent_length}
use Rattle.stop_set.proofs.Laws.{stops-excluding, stops-none}
use Rattle.stop_set.specs.Answers.{First}
use Rattle.distance.specs.declared.tariff.Tariff.{Tariff}
use Rattle.solution.specs.declared.plan.Plan.{Plan}
use Rattle.solution.specs.Held.{numbers_of, routes, Becomes}
use Rattle.solution.proofs.Holding.{holds-routes}
use Rattle.delivery.specs.Held.{IsJobOf, IsDriving, IsCost}
use Rattle.delivery.specs.Costs.{Ready}
use Rattle.delivery.proofs.Laws.{costs-is, costs-amount, costs-whole, drives-amount, drives-whole}
use Rattle.pruned.specs.Search.{with_last, preferred, SameSizes, Winner, reached_below, Search, Searched}
use Rattle.pruned.proofs.Each.{each_same, each-if, each-each, choose-each}
use Rattle.pruned.proofs.Preferring.{preferred-better}

-- ---- the plans reached, a stop and a vehicle at a time

module _ (J : Job) (P : form.Plan) (left : List ℕ) where
  -- with stop s at the end of route k
  abbrev pub reached_with : ℕ → ℕ → List form.Plan
  reached_with s k = reached_below J (cost J P) (with_last k s P) (without s left)

  -- with stop s on any of v vehicles
  abbrev pub reached_on : ℕ → ℕ → List form.Plan
  reached_on v s = for_each (up_from 0 v) (reached_with s)

-- those that one step more makes, of m + 1 stops that are left
steps : (J : Job) (P : form.Plan) (left : List ℕ) (m : ℕ) → length left ≡ suc m
    → for_each (appended J P left) (λ x. reached J m x.0 x.1) ≡ for_each left (reached_on J P left (vehicle_count J))
unfolding appended
steps J P left m e =
    each-each left tries onward ∙ each_same left (λ s. for_each (tries s) onward) (reached_on J P left (vehicle_count J)) (λ s i. each-each (up_from 0 (vehicle_count J)) (try s) onward ∙ each_same (up_from 0 (vehicle_count J)) (λ k. for_each (try s k) onward) (reached_with J P left s) (λ k j. one s k i))
  where
    onward : form.Plan × List ℕ → List form.Plan
    onward x = reached J m x.0 x.1

    try : ℕ → ℕ → List (form.Plan × List ℕ)
    try s k = cond (ltb (driving_cost J (with_last k s P)) (cost J P)) ((with_last k s P, without s left) ∷ []) []

    tries : ℕ → List (form.Plan × List ℕ)
    tries s = for_each (up_from 0 (vehicle_count J)) (try s)

    one : (s k : ℕ) → In s left → for_each (try s k) onward ≡ reached_with J P left s k
    one s k i =
        let less : m ≡ length (without s left) = omega (arith, length_without s left (count-member s left (in_count s left i))) in
        each-if (ltb (driving_cost J (with_last k s P)) (cost J P)) (with_last k s P, without s left) onward
        ∙ ap (λ (j : ℕ). cond (ltb (driving_cost J (with_last k s P)) (cost J P)) (reached J j (with_last k s P) (without s left)) []) less

-- all of them
pub reached-is : (J : Job) (P : form.Plan) (left : List ℕ) → reached J (length left) P left ≡ P ∷ for_each left (reached_on J P left (vehicle_count J))
unfolding reached
reached-is J P [] = refl
reached-is J P (x ∷ xs) = ap (λ (l : List form.Plan). P ∷ l) (steps J P (x ∷ xs) (length xs) refl)

-- ---- plans and their costs

module _ (t : Tariff) (q : Plan) where
  -- a plan that is held can be weighed
  weighable : Ready t.legs.table q.v q.n t.prices (numbers_of q)
  weighable = record { legs = t.legs.lengths; sizes = q.sizes; prices = t.affordable; plan = q.lent }

  pub driving-whole : (d : Float) → IsDriving t q d → IsWhole d
  driving-whole d D = drives-whole t.legs.table q.v q.n t.prices (numbers_of q) weighable d D

  pub cost-whole : (c : Float) → IsCost t q c → IsWhole c
  cost-whole c C = costs-whole t.legs.table q.v q.n t.prices (numbers_of q) weighable c C

  module _ (J : Job) (F : IsJobOf J t q) where
    driving-amount : (d : Float) → IsDriving t q d → amount d ≡ driving_cost J (routes q)
    driving-amount d D = drives-amount t.legs.table q.v q.n t.prices (numbers_of q) weighable d J F D

    cost-amount : (c : Float) → IsCost t q c → amount c ≡ cost J (routes q)
    cost-amount c C = costs-amount t.legs.table q.v q.n t.prices (numbers_of q) weighable c J F C

-- a job of a plan is one of each other of the same sizes
also : (J : Job) (t : Tariff) (q r : Plan) → SameSizes q r → IsJobOf J t q → IsJobOf J t r
also J t q r e F = rw (e.vehicles, e.stops) F

-- ---- the stops on routes and those that are left

module _ {t : Tariff} {left : ℕ} {plan : Plan} {b : Float} {best : Plan} {c : Float} (S : Search t left plan b best c) where
  pub all-stops : placed (routes plan) + length (stops_of left) ≡ plan.n
  all-stops =
      sym (length-append (concat (routes plan)) (stops_of left))
      ∙ length-kept (concat (routes plan) ++ stops_of left) (up_from 0 plan.n) (λ s. count-append s (concat (routes plan)) (stops_of left) ∙ S.all s)
      ∙ length-up_from 0 plan.n

-- ---- the best plan so far

-- of the sizes of the plan, with what it costs
pub record Standing (t : Tariff) (plan best : Plan) (r : Float) : Type 0 where
  pub sizes : SameSizes plan best
  pub cost : IsCost t best r

module _ {t : Tariff} {left : ℕ} {plan : Plan} {b : Float} {best : Plan} {c : Float} (S : Search t left plan b best c) where
  abbrev P : form.Plan
  P = routes plan

  -- the routes cost too much
  pub stopped : (d : Float) (f : Bool) → IsDriving t plan d → f ≡ ltb (amount d) (amount b) → f ≡ false → Searched t left plan b best best c
  stopped d f D e z =
      record {
        sizes = S.sizes;
        cost = S.least;
        chosen = λ J F.
            let no : ltb (driving_cost J P) (amount b) ≡ false = rw (driving-amount t plan J F d D) at (sym e ∙ z) in
            rw no;
      }

  -- what the plan costs
  pub weighed : (d m : Float) (k : ℕ) → IsDriving t plan d → k ≡ length (stops_of left) → m ≡ whole (missed_cost t.prices k) → IsCost t plan (add binary64 d m)
  weighed d m k D e q =
      costs-is t.legs.table plan.v plan.n t.prices (numbers_of plan) (weighable t plan) d m D
      (q ∙ ap (λ (j : ℕ). whole (missed_cost t.prices j)) (let h : k ≡ plan.n - placed P = omega (arith, all-stops S) in h))

  -- the plan is considered
  module _ (a : Float) (C : IsCost t plan a) (kept : Plan) (r : Float) (K : Winner plan a best c kept r) where
    pub considered : Standing t plan kept r
    considered = go (preferred plan.n (amount a) P (amount c) (routes best)) K.choice K.cost
      where
        go : (f : Bool) → kept ≡ cond f plan best → r ≡ cond f a c → Standing t plan kept r
        go true e q = rw (e, q) (record { sizes = record { vehicles = refl; stops = refl }; cost = C })
        go false e q = rw (e, q) (record { sizes = S.sizes; cost = S.least })

    pub considered-chosen : (J : Job) → IsJobOf J t plan → routes kept ≡ choose J (routes best) (P ∷ [])
    considered-chosen J F =
        let same : preferred plan.n (amount a) P (amount c) (routes best) ≡ better J P (routes best) =
        preferred-better J plan.n (amount a) P (amount c) (routes best) F.stops (cost-amount t plan J F a C) (cost-amount t best J (also J t plan best S.sizes F) c S.least)
        in
        go (better J P (routes best)) (rw same at K.choice)
      where
        go : (f : Bool) → kept ≡ cond f plan best → routes kept ≡ cond f P (routes best)
        go true e = ap routes e
        go false e = ap routes e

-- ---- one stop more

module _ {t : Tariff} {left : ℕ} {plan : Plan} {b : Float} {best : Plan} {c : Float} (S : Search t left plan b best c)
    (s : ℕ) (i : 1 ≤ count s (stops_of left)) where
  -- it is a stop of the job, on no route
  pub known : s < plan.n
  known = go (dec_lt s plan.n)
    where
      go : Dec (s < plan.n) → s < plan.n
      go (yes d) = d
      go (no d) = absurd (omega (arith, S.all s, i, count-up_from-out s 0 plan.n (inr (omega arith))))

  pub off : is_placed s (routes plan) ≡ false
  off = count-absent s (concat (routes plan)) (omega (arith, S.all s, i, once-up_from 0 plan.n s))

  module _ (after : ℕ) (e : after ≡ excluding s left) where
    stops-after : stops_of after ≡ without s (stops_of left)
    stops-after = rw e (stops-excluding s left)

    pub fewer : length (stops_of after) < length (stops_of left)
    fewer = rw stops-after (omega (arith, length_without s (stops_of left) (count-member s (stops_of left) i)))

    module _ (k : ℕ) (h : k < plan.v) where
      -- the plan with the stop
      abbrev Q : form.Plan
      Q = with_last k s (routes plan)

      many : length (routes plan) ≡ plan.v
      many = lent_length plan.v plan.n (numbers_of plan) plan.lent

      all_after : (x : ℕ) → count x (concat Q) + count x (stops_of after) ≡ count x (up_from 0 plan.n)
      all_after x =
          rw stops-after
          (omega (
            arith,
            S.all x,
            count-change x k (λ r. r ++ (s ∷ [])) (routes plan) (omega (arith, many)),
            count-append x (route_of (routes plan) k) (s ∷ []),
            count-without s x (stops_of left) (count-member s (stops_of left) i),
          ))

      module _ (next : Plan) (q : Becomes plan next Q) where
        held : routes next ≡ Q
        held = holds-routes plan.v plan.n Q next q (length-change k _ (routes plan) ∙ many)

        -- the search goes on from it
        pub onward : (a : Float) → IsWhole a → (kept : Plan) (r : Float) → Standing t plan kept r → Search t after next a kept r
        onward a w kept r B =
            record {
              sizes = record { vehicles = B.sizes.vehicles ∙ sym q.vehicles; stops = B.sizes.stops ∙ sym q.stops };
              all = λ x. rw (held, q.stops) (all_after x);
              bound = w;
              least = B.cost;
            }

        -- and what it then leaves
        module _ (a : Float) (C : IsCost t plan a) (kept then : Plan) (r : Float) (R : Searched t after next a kept then r) where
          pub went-on : Standing t plan then r
          went-on =
              record { sizes = record { vehicles = R.sizes.vehicles ∙ q.vehicles; stops = R.sizes.stops ∙ q.stops }; cost = R.cost }

          pub went : (J : Job) → IsJobOf J t plan → routes then ≡ choose J (routes kept) (reached_with J (routes plan) (stops_of left) s k)
          went J F =
              R.chosen J (also J t plan next (record { vehicles = q.vehicles; stops = q.stops }) F)
              ∙ rw (cost-amount t plan J F a C, held, stops-after)

-- ---- the loop over the vehicles

-- routes before k were tried with stop s
pub record OnVehicles (t : Tariff) (plan : Plan) (left : List ℕ) (s : ℕ) (first best : Plan) (r : Float) (k : ℕ) : Type 0 where
  pub within : k ≤ plan.v
  pub stands : Standing t plan best r
  pub so : (J : Job) → IsJobOf J t plan
      → choose J (routes best) (for_each (up_from k (plan.v - k)) (reached_with J (routes plan) left s))
      ≡ choose J (routes first) (reached_on J (routes plan) left plan.v s)

pub on_none : {t : Tariff} {plan : Plan} {left : List ℕ} {s : ℕ} {best : Plan} {r : Float} → Standing t plan best r → OnVehicles t plan left s best best r 0
on_none B = record { within = omega arith; stands = B; so = λ J F. rw sub-zero }

module _ {t : Tariff} {plan : Plan} {left : List ℕ} {s : ℕ} {first best : Plan} {r : Float} {k : ℕ} (O : OnVehicles t plan left s first best r k) where
  pub on-more : (then : Plan) (r' : Float) → k < plan.v → Standing t plan then r'
      → ((J : Job) → IsJobOf J t plan → routes then ≡ choose J (routes best) (reached_with J (routes plan) left s k)) → OnVehicles t plan left s first then r' (k + 1)
  on-more then r' h B e =
      record {
        within = omega arith;
        stands = B;
        so = λ J F.
            let m : plan.v - k ≡ suc (plan.v - suc k) = omega arith in
            rw (add-one, e J F) (sym (choose-each J (routes best) k (up_from (suc k) (plan.v - suc k)) (reached_with J (routes plan) left s)) ∙ (rw m at (O.so J F)));
      }

  pub on-all : plan.v ≤ k → (J : Job) → IsJobOf J t plan → routes best ≡ choose J (routes first) (reached_on J (routes plan) left plan.v s)
  on-all h J F = let z : plan.v - k ≡ 0 = omega arith in rw z at (O.so J F)

-- ---- the loop over the stops that are left

-- those outside `rest` were tried
pub record OnStops (t : Tariff) (plan : Plan) (left : ℕ) (first best : Plan) (r : Float) (rest : ℕ) : Type 0 where
  pub of_left : (s : ℕ) → count s (stops_of rest) ≤ count s (stops_of left)
  pub stands : Standing t plan best r
  pub so : (J : Job) → IsJobOf J t plan
      → choose J (routes best) (for_each (stops_of rest) (reached_on J (routes plan) (stops_of left) plan.v))
      ≡ choose J (routes first) (for_each (stops_of left) (reached_on J (routes plan) (stops_of left) plan.v))

pub stops-all : {t : Tariff} {plan : Plan} {left : ℕ} {best : Plan} {r : Float} → Standing t plan best r → OnStops t plan left best best r left
stops-all B = record { of_left = λ s. omega arith; stands = B; so = λ J F. refl }

module _ {t : Tariff} {plan : Plan} {left : ℕ} {first best : Plan} {r : Float} {rest : ℕ} (O : OnStops t plan left first best r rest) where
  module _ (s : ℕ) (f : First rest s) where
    pub stop-left : 1 ≤ count s (stops_of left)
    stop-left = omega (arith, O.of_left s, ap (count s) f.list, one_same s s refl)

    module _ (rest' : ℕ) (e : rest' ≡ excluding s rest) where
      pub stops-fewer : length (stops_of rest') < length (stops_of rest)
      stops-fewer = rw e (omega (arith, ap length f.list))

      pub stops-more : (then : Plan) (r' : Float) → Standing t plan then r'
          → ((J : Job) → IsJobOf J t plan → routes then ≡ choose J (routes best) (reached_on J (routes plan) (stops_of left) plan.v s)) → OnStops t plan left first then r' rest'
      stops-more then r' B q =
          record {
            of_left = λ x. rw e (omega (arith, O.of_left x, ap (count x) f.list));
            stands = B;
            so = λ J F.
                rw (e, q J F)
                (sym (choose-each J (routes best) s (stops_of (excluding s rest)) (reached_on J (routes plan) (stops_of left) plan.v)) ∙ (rw f.list at (O.so J F)));
          }

  pub stops-none-left : rest ≡ 0 → (J : Job) → IsJobOf J t plan
      → routes best ≡ choose J (routes first) (for_each (stops_of left) (reached_on J (routes plan) (stops_of left) plan.v))
  stops-none-left z J F = rw (z, stops-none) at (O.so J F)

-- ---- the whole step

pub searched : {t : Tariff} {left : ℕ} {plan : Plan} {b : Float} {best : Plan} {c : Float} → Search t left plan b best c
    → (d : Float) (f : Bool) → IsDriving t plan d → f ≡ ltb (amount d) (amount b) → f ≡ true
    → (first kept : Plan) (r : Float) → Standing t plan kept r
    → ((J : Job) → IsJobOf J t plan → routes first ≡ choose J (routes best) (routes plan ∷ []))
    → ((J : Job) → IsJobOf J t plan → routes kept ≡ choose J (routes first) (for_each (stops_of left) (reached_on J (routes plan) (stops_of left) plan.v)))
    → Searched t left plan b best kept r
searched {t} {left} {plan} {b} S d f D e below first kept r B began then =
    record {
      sizes = B.sizes;
      cost = B.cost;
      chosen = λ J F.
          let all : reached J (length (stops_of left)) (routes plan) (stops_of left) ≡ routes plan ∷ for_each (stops_of left) (reached_on J (routes plan) (stops_of left) plan.v) =
          rw F.vehicles at (reached-is J (routes plan) (stops_of left))
          in
          let under : ltb (driving_cost J (routes plan)) (amount b) ≡ true = rw (driving-amount t plan J F d D) at (sym e ∙ below) in
          then J F ∙ rw (began J F, under, all);
    }
