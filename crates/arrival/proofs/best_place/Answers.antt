use mathlib.Core.Path.{ap}
use native.Mathlib.Omega.{arith}
use Rattle.model.specs.Live.{live_count}
use Rattle.solution.specs.Held.{routes}
use Rattle.arrival.specs.Places.{counted}
use Rattle.arrival.proofs.Choice.{chosen_none, chosen-row, chosen-all}
use Rattle.arrival.proofs.Arrivals.{fewer, as-many, plan-whole, plan-amount, left-amount, triable}
use Rattle.arrival.proofs.best_place.Goals as goal

pub live_cost-unplaced-requires : goal.live_cost-unplaced-requires
live_cost-unplaced-requires c = omega (arith, fewer c.requires, ap live_count c.with-all.ensures)

pub loop-k-init : goal.loop-k-init
loop-k-init c =
    let u = c.live_cost-unplaced in
    let t = c.args.tariff.now in (
      omega arith,
      plan-whole c.requires t _ u.result c.with-all.ensures u.ensures,
      chosen_none _ _ _ _ (plan-amount c.requires t _ u.result c.with-all.ensures u.ensures),
    )

pub best_on-found-requires : goal.best_on-found-requires
best_on-found-requires c =
    let u = c.live_cost-unplaced in
    triable c.requires c.args.tariff.now _ u.result c.with-all.ensures u.ensures c.missed_cost.result c.missed_cost.ensures c.loop-k.k c.loop-k.found.cost
    c.loop-k-test.true c.loop-k.invariant.1

pub loop-k-preserved : goal.loop-k-preserved
loop-k-preserved c =
    let u = c.live_cost-unplaced in
    let t = c.args.tariff.now in (
      omega arith,
      c.best_on-found.ensures.0,
      chosen-row t.legs.table t.prices _ c.args.stop (routes c.args.plan.now) (fewer c.requires) c.loop-k.k (omega (arith, as-many c.requires, c.loop-k-test.true)) _
          (counted c.loop-k.found) (counted c.best_on-found.result)
          (left-amount c.requires t _ u.result c.with-all.ensures u.ensures c.missed_cost.result c.missed_cost.ensures) c.best_on-found.ensures.1
          c.loop-k.invariant.2,
    )

pub returns : goal.returns
returns c =
    chosen-all _ c.args.stop (routes c.args.plan.now) c.loop-k.k c.loop-k.found (omega (arith, as-many c.requires, c.loop-k.invariant.0))
    c.loop-k.invariant.1 c.loop-k.invariant.2
