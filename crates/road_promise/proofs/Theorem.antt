-- Specification, 19: what is promised of every accepted call of roadworks. The answer is never below the true rise, and fits 64 bits.
use mathlib.Core.Path.{◌≡◌, refl, ap}
use mathlib.Core.Bool.{true, false, and-eq-true_iff}
use mathlib.Core.List.{List, [], ◌∷◌}
use Prim.Native.Nat.{ℕ, zero, suc, ◌+◌, ◌*◌, ◌<◌, ◌≤◌}
use native.Mathlib.Omega.{arith}
use lib.Dec.{ltb}
use lib.ListN.{length, get_or}
use borrow.Author.Tests.{lt-ltb, not-false}
use Rattle.model.specs.declared.Road.{Road}
use Rattle.model.specs.Lists.{all_below, change}
use Rattle.model.specs.Job.{Job, vehicle_count, stop_count, entry}
use Rattle.model.specs.Plan.{placed, decode}
use Rattle.model.specs.Roads.{lengthened, ceiling}
use Rattle.model.specs.Refusals.{Arguments, asking, lengthening, Weigh, Roadworks, refusal, bad_table, bad_distances}
use Rattle.model.specs.Calls.{raised, road_answer}
use Rattle.model.specs.Rises.{RoadPromise}
use Rattle.model.proofs.Lists.{length-change}
use Rattle.model.proofs.Cost.{entry-le}
use Rattle.model.proofs.PlanForm.{lent_length, lent_placed}
use Rattle.model.proofs.Roads.{OnTable, longer, ceiling-fits}
use Rattle.distance.specs.Table.{InLimits}
use Rattle.call_refusals.proofs.Passed.{none-applies, places-passed, legs-passed}
use Rattle.call_refusals.proofs.Accepted.{Lengthens, listed, affordable, lent, lengthens}

-- a number of a list replaced by another that is below the bound
below-change : (n i : ℕ) (f : ℕ → ℕ) (xs : List ℕ) → all_below n xs ≡ true → f (get_or xs i 0) < n → all_below n (change i f xs) ≡ true
below-change n i f [] h k = h
below-change n zero f (x ∷ xs) h k =
    (and-eq-true_iff (ltb (f x) n) (all_below n xs)).1 (lt-ltb (f x) n k, ((and-eq-true_iff (ltb x n) (all_below n xs)).0 h).1)
below-change n (suc i) f (x ∷ xs) h k =
    let p = (and-eq-true_iff (ltb x n) (all_below n xs)).0 h in
    (and-eq-true_iff (ltb x n) (all_below n (change i f xs))).1 (p.0, below-change n i f xs p.1 k)

module _ (J : Job) (plan : List ℕ) (road : Road) (e : refusal Roadworks (lengthening J plan road) ≡ 0) where
  -- the arguments
  abbrev A : Arguments
  A = lengthening J plan road

  limits : InLimits J.vehicles J.stops J.locations J.distances
  limits = (listed Roadworks A e).limits refl

  small : Lengthens J.locations J.distances road
  small = lengthens J plan road e

  on-table : OnTable J road
  on-table =
      record {
        row = small.row;
        column = small.column;
        square = limits.table.square;
        ends = limits.ends;
        places = limits.places;
      }

  -- at most 16 vehicles and 64 stops
  few-legs : placed (decode (vehicle_count J) plan) + length (decode (vehicle_count J) plan) ≤ 80
  few-legs =
      let L = lent Roadworks A e refl in
      let s = (listed Roadworks A e).sizes in
      omega (arith, lent_length (vehicle_count J) (stop_count J) plan L, lent_placed (vehicle_count J) (stop_count J) plan L, s.vehicles, s.stops)

  answered : road_answer A ≡ raised 0 (ceiling J road (decode (vehicle_count J) plan))
  unfolding road_answer
  answered = ap (λ (k : ℕ). raised k (ceiling J road (decode (vehicle_count J) plan))) e

  longer-short : bad_distances (lengthened J road).distances ≡ false
  unfolding lengthened bad_distances entry
  longer-short =
      rw (below-change 200001 (road.from * J.locations + road.to) (λ d. d + road.more) J.distances (not-false _ (legs-passed Roadworks A e refl)) (omega (arith, small.short)))

  longer-table : bad_table J.locations (lengthened J road).distances ≡ false
  unfolding lengthened bad_table
  longer-table = rw length-change (none-applies Roadworks A e 3 refl)

  -- the lengthened job is one that `weigh` takes
  weighs-again : refusal Weigh (asking (lengthened J road) plan []) ≡ 0
  unfolding refusal lengthened
  weighs-again =
      rw (none-applies Roadworks A e 1 refl, none-applies Roadworks A e 2 refl, longer-table, none-applies Roadworks A e 4 refl, places-passed Roadworks A e refl, longer-short, none-applies Roadworks A e 8 refl, none-applies Roadworks A e 11 refl)

  pub road-promise : RoadPromise J plan road
  road-promise =
      record {
        rises = longer J road on-table (decode (vehicle_count J) plan);
        answer = answered;
        fits = ceiling-fits J road (entry-le J.distances J.locations 200000 limits.short) (affordable Roadworks A e refl) (omega (arith, small.short)) (decode (vehicle_count J) plan) few-legs;
        weighed = weighs-again;
      }
