-- What is known of arguments with which a call is not refused.
use mathlib.Core.Path.{◌≡◌, refl}
use mathlib.Core.Bool.{true, false, not, and-eq-true_iff}
use mathlib.Core.List.{List}
use Prim.Native.Nat.{ℕ, ◌+◌, ◌≤◌, ◌<◌}
use native.Mathlib.Omega.{arith}
use lib.ListN.{length}
use lib.Dec.{leb, ltb}
use borrow.Author.Tests.{ltb-false, leb-true, not-false}
use Rattle.model.specs.Lists.{member, Once, all_below, all_once}
use Rattle.model.specs.declared.Prices.{Prices}
use Rattle.model.specs.declared.Road.{Road}
use Rattle.model.specs.Job.{Job, vehicle_count, stop_count, entry}
use Rattle.model.specs.Plan.{Plan, route_of, Lent, Sizes, used_part, decode}
use Rattle.model.specs.StopSet.{contains, stops_of}
use Rattle.model.specs.Live.{Covers, cancelled}
use Rattle.model.specs.Roads.{bad_road, bad_entry}
use Rattle.model.specs.Vans.{Held, bad_vans, on_others_van, beyond_end, bad_move}
use Rattle.model.specs.declared.Move.{Move}
use Rattle.model.specs.Legs.{Affordable}
use Rattle.model.specs.Refusals.{Arguments, naming, looking, moving, lengthening, Call, Weigh, StartPlan, TwoOpt, Rebuild, Exhaustive, Pruned, Solve, Arrive, Cancel, View, MoveStop, Roadworks, asked, refusal, within, bad_length, bad_draws, bad_prices, bad_smoothing, bad_plan, all_live, bad_live, bad_lives, bad_given, bad_arrival, bad_cancellation, too_large}
use Rattle.model.proofs.Lists.{neither, one_same}
use Rattle.model.proofs.Counts.{Below, all_below-below, all_once-once}
use Rattle.model.proofs.Order.{both}
use Rattle.model.proofs.PlanForm.{is_plan-lent, concat-decode}
use Rattle.model.proofs.Vans.{van-lt}
use Rattle.call_tests.proofs.Live.{all-live}
use Rattle.road_tests.proofs.Laws.{on-table}
use Rattle.call_refusals.proofs.Passed.{none-applies, places-passed, legs-passed, right-length, sized}
use Rattle.distance.specs.Table.{InLimits}
use Rattle.distance.proofs.Limits.{in-limits}

-- 1, 2 and 4, which every call tests, and 3, 6 and 7, which every call tests that has a table
pub record Listed (c : Call) (A : Arguments) : Type 0 where
  pub limits : member 3 (asked c) ≡ true → InLimits A.job.vehicles A.job.stops A.job.locations A.job.distances
  pub sizes : Sizes (vehicle_count A.job) (stop_count A.job)
  pub long : length A.plan ≡ vehicle_count A.job + stop_count A.job

asked-by-all : (c : Call) → (member 1 (asked c) ≡ true) × (member 2 (asked c) ≡ true) × (member 4 (asked c) ≡ true)
asked-by-all Weigh = (refl, refl, refl)
asked-by-all StartPlan = (refl, refl, refl)
asked-by-all TwoOpt = (refl, refl, refl)
asked-by-all Rebuild = (refl, refl, refl)
asked-by-all Exhaustive = (refl, refl, refl)
asked-by-all Pruned = (refl, refl, refl)
asked-by-all Solve = (refl, refl, refl)
asked-by-all Arrive = (refl, refl, refl)
asked-by-all Cancel = (refl, refl, refl)
asked-by-all View = (refl, refl, refl)
asked-by-all MoveStop = (refl, refl, refl)
asked-by-all Roadworks = (refl, refl, refl)

asked-of-table : (c : Call) → member 3 (asked c) ≡ true → (member 6 (asked c) ≡ true) × (member 7 (asked c) ≡ true)
asked-of-table Weigh m = (refl, refl)
asked-of-table StartPlan m = (refl, refl)
asked-of-table TwoOpt m = (refl, refl)
asked-of-table Rebuild m = (refl, refl)
asked-of-table Exhaustive m = (refl, refl)
asked-of-table Pruned m = (refl, refl)
asked-of-table Solve m = (refl, refl)
asked-of-table Arrive m = (refl, refl)
asked-of-table Cancel m = (refl, refl)
asked-of-table View m = both m refl
asked-of-table MoveStop m = (refl, refl)
asked-of-table Roadworks m = (refl, refl)

-- a call that has prices has a table
pub priced-table : (c : Call) → member 8 (asked c) ≡ true → member 3 (asked c) ≡ true
priced-table Weigh m = refl
priced-table StartPlan m = refl
priced-table TwoOpt m = refl
priced-table Rebuild m = refl
priced-table Exhaustive m = refl
priced-table Pruned m = refl
priced-table Solve m = refl
priced-table Arrive m = refl
priced-table Cancel m = refl
priced-table View m = both m refl
priced-table MoveStop m = refl
priced-table Roadworks m = refl

-- one or two stops below n, not equal
pub record Given (n : ℕ) (given : List ℕ) : Type 0 where
  pub below : Below n given
  pub once : Once given
  pub some : 1 ≤ length given
  pub few : length given ≤ 2

in-range : (a b x : ℕ) → not (within a b x) ≡ false → (a ≤ x) × (x ≤ b)
in-range a b x h =
    let r = (and-eq-true_iff (leb a x) (leb x b)).0 (not-false _ h) in
    (leb-true _ _ r.0, leb-true _ _ r.1)

-- 8: the prices
pub within-limits : (p : Prices) → bad_prices p ≡ false → Affordable p
unfolding bad_prices
within-limits p h =
    let a = neither (ltb 1000000 p.linear) _ h in
    let b = neither (ltb 16 p.quadratic) (ltb 10000000000000 p.missed) a.1 in
    record { linear = ltb-false _ _ a.0; quadratic = ltb-false _ _ b.0; missed = ltb-false _ _ b.1 }

module _ (c : Call) (A : Arguments) (e : refusal c A ≡ 0) where
  pub listed : Listed c A
  listed =
      let m = asked-by-all c in
      let s = sized c A m.0 m.1 m.2 e in
      record {
        limits = λ h.
            let t = asked-of-table c h in
            in-limits A.job.vehicles A.job.stops A.job.locations A.job.distances (none-applies c A e 1 m.0) (none-applies c A e 2 m.1)
            (none-applies c A e 3 h)
            (places-passed c A e t.0) (legs-passed c A e t.1);
        sizes = s.sizes;
        long = s.long;
      }

  pub affordable : member 8 (asked c) ≡ true → Affordable A.job.prices
  affordable m = within-limits A.job.prices (none-applies c A e 8 m)

  pub lent : member 11 (asked c) ≡ true → Lent (vehicle_count A.job) (stop_count A.job) A.plan
  unfolding bad_plan
  lent m =
      let bad = neither (bad_lives (vehicle_count A.job) (stop_count A.job) A.live A.plan) _ (none-applies c A e 11 m) in
      is_plan-lent _ _ _ listed.long (not-false _ bad.1)

  -- 5 and 9: the number of draws and c are within their ranges
  pub drawable : member 5 (asked c) ≡ true → (1 ≤ length A.draws) × (length A.draws ≤ 1024)
  unfolding bad_draws
  drawable m = in-range 1 1024 (length A.draws) (none-applies c A e 5 m)

  pub smooth : member 9 (asked c) ≡ true → (1 ≤ A.smoothing) × (A.smoothing ≤ 1000)
  unfolding bad_smoothing
  smooth m = in-range 1 1000 A.smoothing (none-applies c A e 9 m)

  -- 12: the given stops
  pub stops : member 12 (asked c) ≡ true → Given (stop_count A.job) A.given
  unfolding bad_given
  stops m =
      let xs = A.given in
      let a = (and-eq-true_iff (all_below (stop_count A.job) xs) _).0 (not-false _ (none-applies c A e 12 m)) in
      let b = (and-eq-true_iff (all_once xs) (within 1 2 (length xs))).0 a.1 in
      let r = (and-eq-true_iff (leb 1 (length xs)) (leb (length xs) 2)).0 b.1 in
      record {
        below = all_below-below (stop_count A.job) xs a.0;
        once = all_once-once xs b.0;
        some = leb-true _ _ r.0;
        few = leb-true _ _ r.1;
      }

  -- 13: few stops and vehicles
  pub small : member 13 (asked c) ≡ true → (stop_count A.job ≤ 6) × (vehicle_count A.job ≤ 3)
  unfolding too_large
  small m =
      let a = neither (ltb 6 (stop_count A.job)) (ltb 3 (vehicle_count A.job)) (none-applies c A e 13 m) in
      (ltb-false _ _ a.0, ltb-false _ _ a.1)

  -- 15: the set names no van from v on
  pub vans-known : member 15 (asked c) ≡ true → bad_vans (vehicle_count A.job) A.vans ≡ false
  vans-known m = (neither (bad_vans (vehicle_count A.job) A.vans) _ (none-applies c A e 15 m)).0

-- 11: a live set that fits the plan
pub covers : (c : Call) (J : Job) (plan : List ℕ) (live s : ℕ) → refusal c (naming J plan live s) ≡ 0 → member 11 (asked c) ≡ true
    → Covers (stop_count J) live (decode (vehicle_count J) plan)
unfolding bad_live
covers c J plan live s e m =
    let used : List ℕ = used_part (vehicle_count J) plan in
    let bad = neither (bad_live (vehicle_count J) (stop_count J) live plan) _ (none-applies c (naming J plan live s) e 11 m) in
    let p = (and-eq-true_iff (all_live live used) (all_below (stop_count J) (stops_of live))).0 (not-false _ bad.0) in
    record { inside = rw concat-decode (all-live live used p.0); below = all_below-below (stop_count J) (stops_of live) p.1 }

-- 12, 16 and 17: a stop below n that is not live, or is
module _ (J : Job) (plan : List ℕ) (live s : ℕ) where
  named : (c : Call) → refusal c (naming J plan live s) ≡ 0 → member 12 (asked c) ≡ true → s < stop_count J
  named c e m = (stops c (naming J plan live s) e m).below s (omega (arith, one_same s s refl))

  -- so it is one of the 64 that a set has room for
  pub named_small : (c : Call) → refusal c (naming J plan live s) ≡ 0 → member 12 (asked c) ≡ true → s < 64
  named_small c e m = omega (arith, named c e m, (listed c (naming J plan live s) e).sizes.stops)

  pub arriving : refusal Arrive (naming J plan live s) ≡ 0 → (s < stop_count J) × (contains s live ≡ false)
  unfolding bad_arrival
  arriving e = (named Arrive e refl, none-applies Arrive (naming J plan live s) e 16 refl)

  pub cancelling : refusal Cancel (naming J plan live s) ≡ 0 → (s < stop_count J) × (contains s live ≡ true)
  unfolding bad_cancellation
  cancelling e = (named Cancel e refl, not-false _ (none-applies Cancel (naming J plan live s) e 17 refl))

-- 4: the list that a view is written to
pub seen-long : (J : Job) (plan : List ℕ) (vans : ℕ) (seen : List ℕ) → refusal View (looking J plan vans seen) ≡ 0
    → length seen ≡ vehicle_count J + stop_count J
seen-long J plan vans seen e =
    right-length _ _ seen (neither (bad_length (vehicle_count J) (stop_count J) seen) _ (none-applies View (looking J plan vans seen) e 4 refl)).0

-- 12 and 15: a move of a stop below n, by a caller who holds the vans that it changes, to a place of a van below v
pub record Allowed (J : Job) (plan : List ℕ) (vans : ℕ) (m : Move) : Type 0 where
  pub stop : m.stop < stop_count J
  pub van : m.van < vehicle_count J
  pub place : m.place ≤ length (route_of (cancelled m.stop (decode (vehicle_count J) plan)) m.van)
  pub held : Held vans m (decode (vehicle_count J) plan)

module _ (J : Job) (plan : List ℕ) (vans : ℕ) (m : Move) (e : refusal MoveStop (moving J plan vans m) ≡ 0) where
  pub move-passes : bad_move vans m (decode (vehicle_count J) plan) ≡ false
  move-passes = (neither (bad_vans (vehicle_count J) vans) _ (none-applies MoveStop (moving J plan vans m) e 15 refl)).1

  pub allowed : Allowed J plan vans m
  unfolding bad_move beyond_end
  allowed =
      let P : Plan = decode (vehicle_count J) plan in
      let a = neither (on_others_van vans m.stop P) _ move-passes in
      let b = neither (not (contains m.van vans)) (beyond_end m P) a.1 in
      let to : contains m.van vans ≡ true = not-false _ b.0 in
      record {
        stop = (stops MoveStop (moving J plan vans m) e refl).below m.stop (omega (arith, one_same m.stop m.stop refl));
        van = van-lt (vehicle_count J) vans m.van (vans-known MoveStop (moving J plan vans m) e refl) to;
        place = ltb-false _ _ b.1;
        held = record { source = a.0; target = to };
      }

-- 6 and 7: a road of the table, whose entry stays within the limit
pub record Lengthens (l : ℕ) (ds : List ℕ) (road : Road) : Type 0 where
  pub row : road.from < l
  pub column : road.to < l
  pub short : entry ds l road.from road.to + road.more ≤ 200000

module _ (J : Job) (plan : List ℕ) (road : Road) (e : refusal Roadworks (lengthening J plan road) ≡ 0) where
  pub lengthens : Lengthens J.locations J.distances road
  unfolding bad_entry
  lengthens =
      let six = neither (bad_road J.locations road) _ (none-applies Roadworks (lengthening J plan road) e 6 refl) in
      let seven = neither (bad_entry J.locations J.distances road) _ (none-applies Roadworks (lengthening J plan road) e 7 refl) in
      let p = on-table J.locations road six.0 in
      record { row = p.0; column = p.1; short = ltb-false _ _ seven.0 }
