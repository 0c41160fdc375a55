use lib.Dec.{lit<}
use Rattle.model.proofs.Counts.{below_at}
use Rattle.solution.proofs.Sets.{holds-none, holds_more, set-end}
use native.Mathlib.Omega.{arith}
use Rattle.solution.proofs.set_of.Goals as goal

pub loop-stop-init : goal.loop-stop-init
loop-stop-init c = (lit< tt, holds-none c.args.part.now)

pub with-set-requires : goal.with-set-requires
with-set-requires c = below_at 64 c.args.part.now c.loop-stop.stop-index c.requires.0 c.loop-stop-test.true

pub loop-stop-preserved : goal.loop-stop-preserved
loop-stop-preserved c =
    let p = c.args.part.now in
    let l = c.loop-stop in (
      omega (arith, c.with-set.type_inv),
      holds_more p c.requires.1 l.stop-index l.set c.with-set.result c.loop-stop-test.true (below_at 64 p l.stop-index c.requires.0 c.loop-stop-test.true)
          c.with-set.ensures l.invariant.1,
    )

pub returns : goal.returns
returns c =
    let l = c.loop-stop in
    set-end c.args.part.now l.stop-index l.set (omega arith) l.invariant.0 l.invariant.1
