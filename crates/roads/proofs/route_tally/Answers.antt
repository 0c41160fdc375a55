use Prim.Native.Nat.{ℕ, ◌<◌}
use native.Mathlib.Omega.{arith}
use lib.ListN.{length, get_or}
use Rattle.model.proofs.Cost.{entry-le}
use Rattle.roads.proofs.Walks.{stop-there, next_place, walk-starts, walk-onward, walk_ends}
use Rattle.roads.proofs.route_tally.Goals as goal
use Rattle.roads.proofs.route_tally.Goals.{In-loop-stop}

-- the location of the stop of a turn
abbrev next : In-loop-stop → ℕ
next c = let a = c.args in get_or a.network.now.stops.now (get_or a.route.now c.loop-stop.stop-index 0) 0

-- that stop is one of the list
stop-known : (c : In-loop-stop)
    → get_or c.args.route.now c.loop-stop.stop-index 0 < length c.args.network.now.stops.now
stop-known c = stop-there _ _ _ _ _ _ c.requires c.loop-stop.stop-index c.loop-stop-test.true

pub loop-stop-init : goal.loop-stop-init
loop-stop-init c = walk-starts _ _ _ _ _ _ _ c.requires

pub offset_bounds-network-stop : goal.offset_bounds-network-stop
offset_bounds-network-stop c = omega (arith, stop-known (goal.at.offset_bounds-network-stop c).In-loop-stop)

pub bounds-network-stop : goal.bounds-network-stop
bounds-network-stop c = stop-known (goal.at.bounds-network-stop c).In-loop-stop

pub overflow_add-uses : goal.overflow_add-uses
overflow_add-uses c =
    omega (arith, c.one_use-uses.ensures.1, c.loop-stop.invariant.few, c.requires.few)

pub lookup-metres-requires : goal.lookup-metres-requires
lookup-metres-requires c =
    (c.requires.table, c.loop-stop.invariant.place, next_place _ _ _ _ _ _ c.requires c.loop-stop.stop-index c.loop-stop-test.true)

pub overflow_add-metres : goal.overflow_add-metres
overflow_add-metres c =
    omega (arith, c.lookup-metres.ensures, entry-le c.args.network.now.distances.now c.args.network.now.locations 200000 c.requires.short c.loop-stop.here (next (goal.at.overflow_add-metres c).In-loop-stop), c.loop-stop.invariant.short, c.requires.few)

pub loop-stop-preserved : goal.loop-stop-preserved
loop-stop-preserved c =
    walk-onward _ _ _ _ _ _ _ c.requires _ _ _ _ c.loop-stop.invariant _ _ c.loop-stop-test.true c.one_use-uses.ensures.0 c.lookup-metres.ensures

pub overflow_add-uses-2 : goal.overflow_add-uses-2
overflow_add-uses-2 c =
    omega (arith, c.one_use-uses-2.ensures.1, c.loop-stop.invariant.few, c.requires.few)

pub lookup-metres-requires-2 : goal.lookup-metres-requires-2
lookup-metres-requires-2 c =
    (c.requires.table, c.loop-stop.invariant.place, c.requires.ends)

pub overflow_add-metres-2 : goal.overflow_add-metres-2
overflow_add-metres-2 c =
    omega (arith, c.lookup-metres-2.ensures, entry-le c.args.network.now.distances.now c.args.network.now.locations 200000 c.requires.short c.loop-stop.here c.args.end, c.loop-stop.invariant.short, c.requires.few)

pub returns : goal.returns
returns c =
    walk_ends _ _ _ _ _ _ _ c.requires _ _ _ _ c.loop-stop.invariant _ _ c.loop-stop-test.false c.one_use-uses-2.ensures.0 c.lookup-metres-2.ensures
