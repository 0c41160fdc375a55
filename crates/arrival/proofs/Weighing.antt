-- What a plan costs with a stop put in at a place, from the price of one route: over the leg table, where the code weighs.
use mathlib.Core.Path.{◌≡◌, sym, ap, ap₂, ◌∙◌}
use Prim.Native.Nat.{ℕ, suc, ◌+◌, ◌-◌, ◌≤◌, ◌<◌}
use native.Mathlib.Nat.{suc-mul}
use native.Mathlib.Omega.{arith}
use mathlib.Core.List.{List}
use lib.Ieee.{Float, binary64, add, sub}
use lib.ListN.{length}
use Rattle.model.specs.declared.Prices.{Prices}
use Rattle.model.specs.Whole.{whole, exact, amount, IsWhole}
use Rattle.model.specs.Plan.{Plan, Route, route_of, placed}
use Rattle.model.specs.Legs.{depot}
use Rattle.model.specs.Cost.{price, missed_cost}
use Rattle.model.specs.Live.{live_count, put_in, placing}
use Rattle.model.proofs.Cost.{missed_cost-is}
use Rattle.model.proofs.Live.{added-at}
use Rattle.whole.proofs.Laws.{add-whole, sub-whole, amount-is, whole-amount}
use Rattle.distance.specs.declared.tariff.Tariff.{Tariff}
use Rattle.distance.specs.Ways.{table_legs}
use Rattle.solution.specs.declared.plan.Plan as held
use Rattle.solution.specs.Held.{routes}
use Rattle.delivery.specs.Costs.{table_price, table_driving, table_live}
use Rattle.delivery.proofs.Live.{table_live-is}
use Rattle.delivery.proofs.Laws.{price-small}
use Rattle.delivery.proofs.Driving.{table-change, route-le}
use Rattle.arrival.specs.Places.{cost_with, Triable}

module _ (t : List ℕ) (p : Prices) where
  missed_more : (m : ℕ) → missed_cost p (suc m) ≡ missed_cost p m + missed_cost p 1
  missed_more m = rw (missed_cost-is p (suc m), missed_cost-is p m, missed_cost-is p 1) (omega (arith, suc-mul m p.missed))

  -- a plan that misses a live stop
  module _ (live : ℕ) (P : Plan) (fewer : placed P < live_count live) where
    -- what the missed stops cost but for one
    still : ℕ
    still = missed_cost p (live_count live - suc (placed P))

    live-missed : table_live t p live P ≡ table_driving t p 0 P + still + missed_cost p 1
    unfolding still
    live-missed =
        let e : live_count live - placed P ≡ suc (live_count live - suc (placed P)) = omega arith in
        omega (arith, table_live-is t p live P, ap (missed_cost p) e, missed_more (live_count live - suc (placed P)))

    pub missed-le : missed_cost p 1 ≤ table_live t p live P
    missed-le = omega (arith, live-missed)

  module _ (P : Plan) (k : ℕ) (h : k < length P) where
    module _ (live : ℕ) (fewer : placed P < live_count live) where
      pub own-le : table_price t p k (route_of P k) ≤ table_live t p live P - missed_cost p 1
      own-le = omega (arith, live-missed live P fewer, route-le t p k P h)

      -- the route's new price comes, its old one goes, and a missed stop
      pub placing-cost : (i s : ℕ) → cost_with t p k (route_of P k) (table_live t p live P - missed_cost p 1) s i ≡ table_live t p live (placing s P k i)
      unfolding still
      placing-cost i s =
          let X : Plan = placing s P k i in
          let e : live_count live - placed X ≡ live_count live - suc (placed P) = ap (λ (m : ℕ). live_count live - m) (added-at k i s P h).more in
          omega (arith, live-missed live P fewer, route-le t p k P h, table_live-is t p live X, table-change t p k (put_in i s) P h, ap (missed_cost p) e)

-- ---- in f64: no difference is below 0, and all is exact

module _ {t : Tariff} {p : held.Plan} {k : ℕ} {c : Float} {s : ℕ} {b : Float} (T : Triable t p k c s b) where
  abbrev r : Route
  r = route_of (routes p) k

  -- what the plan costs with the stop at position i
  abbrev with_stop : ℕ → ℕ
  with_stop i = cost_with t.legs.table t.prices k r (amount c) s i

  -- q is that route, as the code reads it
  module _ (q : Route) (Q : q ≡ route_of (routes p) k) (i d e : ℕ) (x y : Float) (D : d ≡ table_legs t.legs.table (depot k) q (depot k)) (X : x ≡ whole (price t.prices d))
      (E : e ≡ table_legs t.legs.table (depot k) (put_in i s q) (depot k)) (short : e ≤ 16000000) (Y : y ≡ whole (price t.prices e)) where
    old-price : x ≡ whole (table_price t.legs.table t.prices k r)
    old-price = X ∙ ap (λ (m : ℕ). whole (price t.prices m)) (rw Q at D)

    new-price : y ≡ whole (table_price t.legs.table t.prices k (put_in i s r))
    new-price = Y ∙ ap (λ (m : ℕ). whole (price t.prices m)) (rw Q at E)

    new-small : table_price t.legs.table t.prices k (put_in i s r) ≤ 4112000000000000
    new-small = rw (← Q, ← E) (price-small t.prices t.affordable e short)

    cost-small : with_stop i ≤ exact
    cost-small = omega (arith, new-small, T.small)

    cost-exact : add binary64 (sub binary64 c x) y ≡ whole (with_stop i)
    cost-exact =
        let own : ℕ = table_price t.legs.table t.prices k r in
        ap₂ (add binary64)
        (ap₂ (sub binary64) (sym (whole-amount c T.left)) old-price ∙ sub-whole (amount c) own (omega (arith, T.small)) (omega (arith, T.small, T.own)) T.own)
        new-price
        ∙ add-whole (amount c - own) (table_price t.legs.table t.prices k (put_in i s r)) (omega (arith, T.small)) (omega (arith, new-small))

    pub cost-whole : IsWhole (add binary64 (sub binary64 c x) y)
    cost-whole = (with_stop i, cost-small, cost-exact)

    pub cost-amount : amount (add binary64 (sub binary64 c x) y) ≡ cost_with t.legs.table t.prices k (route_of (routes p) k) (amount c) s i
    cost-amount = amount-is _ (with_stop i) cost-small cost-exact
