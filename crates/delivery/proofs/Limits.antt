-- Within the limits the routes of no plan of a job cost more than `dearest`, whatever their stops are: at most 80 legs, each at most 200,000 long.
use Prim.Native.Nat.{ℕ, suc, ◌+◌, ◌*◌, ◌≤◌}
use native.Mathlib.Nat.{le_trans}
use native.Mathlib.Omega.{arith}
use mathlib.Core.List.{[], ◌∷◌}
use lib.ListN.{length, length-append, get_or}
use Rattle.model.specs.Lists.{concat}
use Rattle.model.specs.Job.{Job, distance}
use Rattle.model.specs.Plan.{Plan, placed}
use Rattle.model.specs.Legs.{Affordable}
use Rattle.model.specs.Cost.{route_length, price, driving_from, driving_cost}
use Rattle.model.proofs.Cost.{entry-le, driving-nil, driving-cons, driving_cost-is, route_length-le}
use Rattle.delivery.proofs.Laws.{dearest, price-small, price-apart}

module _ (J : Job) (short : (i : ℕ) → get_or J.distances i 0 ≤ 200000) where
  distance-small : (a b : ℕ) → distance J a b ≤ 200000
  distance-small a b = entry-le J.distances J.locations 200000 short a b

  -- all routes together, those of the vehicles from k on
  total : ℕ → Plan → ℕ
  total k [] = 0
  total k (r ∷ P) = route_length J k r + total (suc k) P

  total-small : (k : ℕ) (P : Plan) → total k P ≤ (placed P + length P) * 200000
  unfolding total
  total-small k [] = omega arith
  total-small k (r ∷ P) =
      omega (arith, route_length-le J 200000 distance-small k r, total-small (suc k) P, length-append r (concat P))

  together : (k : ℕ) (P : Plan) → driving_from J k P ≤ price J.prices (total k P)
  unfolding total
  together k [] = omega (arith, driving-nil J k)
  together k (r ∷ P) =
      omega (arith, driving-cons J k r P, together (suc k) P, price-apart J.prices (route_length J k r) (total (suc k) P))

  pub driving-limit : Affordable J.prices → (P : Plan) → placed P + length P ≤ 80 → driving_cost J P ≤ dearest
  driving-limit A P h =
      rw driving_cost-is (le_trans (together 0 P) (price-small J.prices A (total 0 P) (omega (arith, total-small 0 P))))
