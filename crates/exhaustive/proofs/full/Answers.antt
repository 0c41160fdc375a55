use native.Mathlib.Omega.{arith}
use native.Mathlib.Nat.{pos_of_ne-zero}
use Rattle.exhaustive.proofs.Writing.{next-off, next-written}
use Rattle.exhaustive.proofs.full.Goals as goal

pub append-requires-clause-stop : goal.append-requires-clause-stop
append-requires-clause-stop c =
    let l = c.loop-stop in
    (omega (arith, c.loop-stop-test.true, l.invariant.1.stops), next-off c.args.v c.args.n l.stop (pos_of_ne-zero c.if-v-eq0.false) l.plan l.invariant.1)

pub loop-stop-preserved : goal.loop-stop-preserved
loop-stop-preserved c =
    let l = c.loop-stop in
    (omega (arith, c.loop-stop-test.true), next-written c.args.v c.args.n l.stop (pos_of_ne-zero c.if-v-eq0.false) l.plan l.invariant.1 _ c.append.ensures)
