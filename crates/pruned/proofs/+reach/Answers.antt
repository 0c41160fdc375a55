use Prim.Native.Nat.{ℕ, ◌≤◌}
use mathlib.Core.Path.{refl}
use native.Mathlib.Omega.{arith}
use native.Mathlib.Nat.{pos_of_ne-zero}
use lib.Ieee.{Float, binary64, add}
use Rattle.model.specs.Lists.{count}
use Rattle.model.specs.StopSet.{stops_of}
use Rattle.solution.specs.declared.plan.Plan.{Plan}
use Rattle.delivery.specs.Held.{IsCost}
use Rattle.pruned.proofs.Reaching.{Standing, driving-whole, cost-whole, all-stops, stopped, weighed, considered, considered-chosen, known, off, fewer, onward, went-on, went, on_none, on-more, on-all, stops-all, stop-left, stops-fewer, stops-more, stops-none-left, searched}
use Rattle.pruned.proofs.+reach.Goals as goal
use Rattle.pruned.proofs.+reach.Goals.{After-consider-found, After-missed_cost, After-without-after}

abbrev costs : (t : ℕ) → After-missed_cost t → Float
costs t c = add binary64 c.driving_cost-driving.result c.missed_cost.result

weighs : (t : ℕ) (c : After-missed_cost t) → IsCost c.args.tariff.now c.args.plan.now (costs t c)
weighs t c =
    weighed c.requires c.driving_cost-driving.result c.missed_cost.result c.size.result
    c.driving_cost-driving.ensures c.size.ensures.stops c.missed_cost.ensures

-- and considered
abbrev first-best : (t : ℕ) → After-consider-found t → Plan
first-best t c = c.consider-found.new.best

stands : (t : ℕ) (c : After-consider-found t) → Standing c.args.tariff.now c.args.plan.now (first-best t c) c.consider-found.result
stands t c = considered c.requires (costs t (goal.at.After-consider-found t c).After-missed_cost) (weighs t (goal.at.After-consider-found t c).After-missed_cost) (first-best t c) c.consider-found.result c.consider-found.ensures

is-left : (t : ℕ) (c : After-without-after t) → 1 ≤ count c.lowest-stop.result (stops_of c.args.left)
is-left t c = stop-left c.loop-rest.invariant c.lowest-stop.result c.lowest-stop.ensures

pub missed_cost-requires : goal.missed_cost-requires
missed_cost-requires t c =
    let p = c.args.plan.now in (omega (arith, all-stops c.requires, c.size.ensures.stops, p.sizes.stops), c.args.tariff.now.affordable)

pub cheaper-requires : goal.cheaper-requires
cheaper-requires t c =
    let a = c.args in
    (driving-whole a.tariff.now a.plan.now c.driving_cost-driving.result c.driving_cost-driving.ensures, c.requires.bound)

pub returns-then-not-cheaper : goal.returns-then-not-cheaper
returns-then-not-cheaper t c =
    stopped c.requires c.driving_cost-driving.result c.cheaper.result c.driving_cost-driving.ensures c.cheaper.ensures
    c.if-not-cheaper.true

pub consider-found-requires : goal.consider-found-requires
consider-found-requires t c =
    let a = c.args in
    record {
      sizes = c.requires.sizes;
      cost = cost-whole a.tariff.now a.plan.now _ (weighs t (goal.at.consider-found-requires t c).After-missed_cost);
      least = cost-whole a.tariff.now a.best.now a.least c.requires.least;
    }

pub loop-rest-init : goal.loop-rest-init
loop-rest-init t c = stops-all (stands t (goal.at.loop-rest-init t c).After-consider-found)

pub lowest-stop-requires : goal.lowest-stop-requires
lowest-stop-requires t c = pos_of_ne-zero c.loop-rest-test.true

pub without-rest-requires : goal.without-rest-requires
without-rest-requires t c = c.lowest-stop.ensures.small

pub without-after-requires : goal.without-after-requires
without-after-requires t c = c.lowest-stop.ensures.small

pub loop-k-init : goal.loop-k-init
loop-k-init t c = on_none c.loop-rest.invariant.stands

pub loop-rest-smaller : goal.loop-rest-smaller
loop-rest-smaller t c = stops-fewer c.loop-rest.invariant c.lowest-stop.result c.lowest-stop.ensures c.without-rest.result c.without-rest.ensures

pub loop-rest-preserved : goal.loop-rest-preserved
loop-rest-preserved t c =
    let l = c.loop-k in
    stops-more c.loop-rest.invariant c.lowest-stop.result c.lowest-stop.ensures c.without-rest.result c.without-rest.ensures
    l.best l.found l.invariant.stands (on-all l.invariant c.loop-k-test.false)

pub put_last-requires-clause-stop : goal.put_last-requires-clause-stop
put_last-requires-clause-stop t c =
    let i = is-left t (goal.at.put_last-requires-clause-stop t c).After-without-after in
    (known c.requires c.lowest-stop.result i, off c.requires c.lowest-stop.result i)

pub invariant_of-next : goal.invariant_of-next
invariant_of-next t c =
    let p = c.args.plan.now in
    record { sizes = p.sizes; lent = c.put_last.ensures.lent }

pub reach-found-requires : goal.reach-found-requires
reach-found-requires t c =
    let l = c.loop-k in
    let stop = c.lowest-stop.result in
    let i = is-left t (goal.at.reach-found-requires t c).After-without-after in
    let w = weighs t (goal.at.reach-found-requires t c).After-missed_cost in (
      omega (arith, fewer c.requires stop i c.without-after.result c.without-after.ensures),
      onward c.requires stop i c.without-after.result c.without-after.ensures l.k c.loop-k-test.true _ (record { vehicles = refl; stops = refl; form = c.put_last.ensures.form })
          _ (cost-whole c.args.tariff.now c.args.plan.now _ w) l.best l.found l.invariant.stands,
    )

pub loop-k-preserved : goal.loop-k-preserved
loop-k-preserved t c =
    let l = c.loop-k in
    let stop = c.lowest-stop.result in
    let k = c.reach-found in
    let i = is-left t (goal.at.loop-k-preserved t c).After-without-after in
    let w = weighs t (goal.at.loop-k-preserved t c).After-missed_cost in
    on-more l.invariant k.new.best k.result c.loop-k-test.true
    (went-on c.requires stop i c.without-after.result c.without-after.ensures l.k c.loop-k-test.true _ (record { vehicles = refl; stops = refl; form = c.put_last.ensures.form })
    _ w l.best k.new.best k.result k.ensures)
    (went c.requires stop i c.without-after.result c.without-after.ensures l.k c.loop-k-test.true _ (record { vehicles = refl; stops = refl; form = c.put_last.ensures.form })
    _ w l.best k.new.best k.result k.ensures)

pub returns : goal.returns
returns t c =
    let l = c.loop-rest in
    let d = (goal.at.returns t c).After-consider-found in
    let w = weighs t (goal.at.returns t c).After-missed_cost in
    searched c.requires c.driving_cost-driving.result c.cheaper.result c.driving_cost-driving.ensures c.cheaper.ensures c.if-not-cheaper.false
    (first-best t d) l.best l.found l.invariant.stands
    (considered-chosen c.requires _ w (first-best t d) c.consider-found.result c.consider-found.ensures)
    (stops-none-left l.invariant c.loop-rest-test.false)
