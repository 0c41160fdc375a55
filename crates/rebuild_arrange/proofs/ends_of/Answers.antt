use native.Mathlib.Omega.{arith}
use Rattle.rebuild_arrange.proofs.Ends.{ending-none, ending-stop, ending-gap, ending-all}
use Rattle.rebuild_arrange.proofs.ends_of.Goals as goal
use Rattle.rebuild_arrange.proofs.ends_of.Goals.{then-i-lt-GAP, else-i-lt-GAP}

pub loop-i-init : goal.loop-i-init
loop-i-init c = ending-none c.args.frame.now c.args.places

pub loop-i-preserved : goal.loop-i-preserved
loop-i-preserved c =
    let l = c.loop-i in
    elim c.if-i-lt-GAP.branch [
      | then-i-lt-GAP w ↦ ending-stop c.args.frame.now c.args.places c.requires l.i l.ends l.invariant w.if-i-lt-GAP.true c.if-i-lt-GAP.ends w.ends-is
      | else-i-lt-GAP w ↦ ending-gap c.args.frame.now c.args.places c.requires l.i l.ends l.invariant c.loop-i-test.true w.if-i-lt-GAP.false c.if-i-lt-GAP.ends w.ends-is
    ]

pub returns : goal.returns
returns c =
    let l = c.loop-i in
    ending-all c.args.frame.now c.args.places c.requires l.i l.ends l.invariant (omega arith)
