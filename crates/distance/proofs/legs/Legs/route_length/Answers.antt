use Prim.Native.Nat.{◌+◌, ◌<◌}
use native.Mathlib.Omega.{arith}
use lib.ListN.{get_or}
use Rattle.model.proofs.Counts.{below_at}
use Rattle.distance.proofs.Laws.{onward, onward-end, route-length-is}
use Rattle.distance.proofs.legs.Legs.route_length.Goals as goal
use Rattle.distance.proofs.legs.Legs.route_length.Goals.{In-loop-stop}

-- the stop of a turn
next_small : (c : In-loop-stop) → get_or c.args.route.now c.loop-stop.stop-index 0 < 64
next_small c =
    below_at 64 c.args.route.now c.loop-stop.stop-index c.requires.1.stops c.loop-stop-test.true

pub overflow_cast-next : goal.overflow_cast-next
overflow_cast-next c = omega (arith, next_small (goal.at.overflow_cast-next c).In-loop-stop)

pub leg-sum-requires : goal.leg-sum-requires
leg-sum-requires c =
    (c.loop-stop.invariant.1, omega (arith, next_small (goal.at.leg-sum-requires c).In-loop-stop))

pub overflow_add-sum : goal.overflow_add-sum
overflow_add-sum c = omega (arith, c.requires.1.few)

pub loop-stop-preserved : goal.loop-stop-preserved
loop-stop-preserved c =
    let a = c.args in
    let h = onward a.self.now.table c.loop-stop.here a.route.now (64 + a.vehicle) c.loop-stop.stop-index c.loop-stop-test.true in
    (omega arith, omega (arith, next_small (goal.at.loop-stop-preserved c).In-loop-stop), omega (arith, h))

pub leg-requires : goal.leg-requires
leg-requires c = (c.loop-stop.invariant.1, omega arith)

pub overflow_add-result : goal.overflow_add-result
overflow_add-result c = omega (arith, c.requires.1.few)

pub returns : goal.returns
returns c =
    let a = c.args in
    let h = onward-end a.self.now.table c.loop-stop.here a.route.now (64 + a.vehicle) c.loop-stop.stop-index c.loop-stop-test.false in
    route-length-is a.self.now.table a.vehicle a.route.now (c.loop-stop.sum + c.leg.result) a.self.now.lengths c.requires.1 (omega (arith, h))
