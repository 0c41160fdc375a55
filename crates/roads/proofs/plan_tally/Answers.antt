use Prim.Native.Nat.{ℕ, ◌+◌, ◌*◌, ◌<◌}
use mathlib.Core.Path.{sym, subst}
use native.Mathlib.Omega.{arith}
use lib.ListN.{length, get_or}
use Rattle.model.specs.Plan.{Route, route_of}
use Rattle.solution.specs.Held.{routes}
use Rattle.roads.specs.Tallies.{Walkable, RouteTally}
use Rattle.roads.proofs.Plans.{route-walkable, uses-fit, metres-fit, tally-starts, tally-onward, tally-ends}
use Rattle.roads.proofs.plan_tally.Goals as goal
use Rattle.roads.proofs.plan_tally.Goals.{After-route_tally-one, In-loop-k}

-- the vehicle of a turn is one of the list
fits : (c : In-loop-k) → 2 * c.loop-k.k + 1 < length c.args.network.now.vehicles.now
fits c = omega (arith, c.requires.vehicles, c.loop-k-test.true)

-- what was counted on the route of a turn
counted : (c : After-route_tally-one) →
    let N = c.args.network.now in
    let k = c.loop-k.k in
    RouteTally N.stops.now N.locations N.distances.now c.args.road (get_or N.vehicles.now (2 * k) 0) (get_or N.vehicles.now (2 * k + 1) 0)
    (route_of (routes c.args.plan.now) k) c.route_tally-one.result
counted c = rw c.route.ensures at c.route_tally-one.ensures

pub loop-k-init : goal.loop-k-init
loop-k-init c = tally-starts _ _ c.requires _

pub bounds-network-k : goal.bounds-network-k
bounds-network-k c = omega (arith, fits (goal.at.bounds-network-k c).In-loop-k)

pub route_tally-one-requires : goal.route_tally-one-requires
route_tally-one-requires c =
    rw c.route.ensures (route-walkable c.args.network.now c.args.plan.now c.requires c.loop-k.k c.loop-k-test.true)

pub overflow_add-uses : goal.overflow_add-uses
overflow_add-uses c =
    omega (arith, uses-fit _ _ c.requires _ _ _ _ c.loop-k.invariant _ c.loop-k-test.true (counted (goal.at.overflow_add-uses c).After-route_tally-one))

pub overflow_add-metres : goal.overflow_add-metres
overflow_add-metres c =
    omega (arith, metres-fit _ _ c.requires _ _ _ _ c.loop-k.invariant _ c.loop-k-test.true (counted (goal.at.overflow_add-metres c).After-route_tally-one))

pub loop-k-preserved : goal.loop-k-preserved
loop-k-preserved c =
    tally-onward _ _ c.requires _ _ _ _ c.loop-k.invariant _ c.loop-k-test.true (counted (goal.at.loop-k-preserved c).After-route_tally-one)

pub returns : goal.returns
returns c = tally-ends _ _ c.requires _ _ _ _ c.loop-k.invariant c.loop-k-test.false
