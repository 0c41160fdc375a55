use native.Mathlib.Omega.{arith}
use mathlib.Core.Path.{refl}
use Rattle.model.proofs.Counts.{below_at}
use Rattle.rebuild_survey.proofs.Ways.{going-none, going_more, going-all}
use Rattle.rebuild_survey.proofs.along.Goals as goal

pub loop-stop-init : goal.loop-stop-init
loop-stop-init c = going-none c.args.legs.now.table c.args.from c.args.part.now c.requires.0

pub leg-sum-requires : goal.leg-sum-requires
leg-sum-requires c =
    (c.loop-stop.invariant.near, omega (arith, below_at 64 c.args.part.now c.loop-stop.stop-index c.requires.1.stops (omega arith)))

pub overflow_add-sum : goal.overflow_add-sum
overflow_add-sum c = omega (arith, c.requires.1.few)

pub loop-stop-preserved : goal.loop-stop-preserved
loop-stop-preserved c =
    let l = c.loop-stop in
    going_more c.args.legs.now.table c.args.from c.args.part.now l.stop-index l.sum l.last c.leg-sum.result l.invariant (omega arith)
    c.requires.1.stops c.leg-sum.ensures.0 c.leg-sum.ensures.1

pub returns : goal.returns
returns c =
    let l = c.loop-stop in
    going-all c.args.legs.now.table c.args.from c.args.part.now l.stop-index l.sum l.last l.invariant (omega arith) c.requires.1.few _ refl refl
