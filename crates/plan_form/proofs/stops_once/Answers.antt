use mathlib.Core.Path.{sym, ◌∙◌}
use native.Mathlib.Omega.{arith}
use Rattle.plan_form.proofs.Seen.{good_start, good_more}
use Rattle.plan_form.proofs.stops_once.Goals as goal

pub loop-stop-init : goal.loop-stop-init
loop-stop-init c = good_start c.args.n c.args.part.now

pub loop-stop-preserved : goal.loop-stop-preserved
loop-stop-preserved c =
    let l = c.loop-stop in
    l.invariant
    ∙ good_more c.args.n l.seen c.args.part.now l.stop-index c.loop-stop-test.true c.with-seen.result (omega arith)
    (sym c.contains.ensures ∙ c.if-contains.false) c.with-seen.ensures
