use mathlib.Core.Path.{sym, ◌∙◌}
use Rattle.plan_form.proofs.Form.{too-long, first_holds, first-fails}
use native.Mathlib.Omega.{arith}
use Rattle.plan_form.proofs.is_plan.Goals as goal

pub returns-then-n-used : goal.returns-then-n-used
returns-then-n-used c =
    sym (too-long c.args.v c.args.n c.args.plan.now (omega arith))

pub returns-then-stops_once : goal.returns-then-stops_once
returns-then-stops_once c =
    let a = c.args in
    c.all_unused.ensures
    ∙ sym (first_holds a.v a.n a.plan.now _ c.requires.plan_len (omega arith) (omega arith) c.stops_once.ensures c.if-stops_once.true)

pub returns-else-stops_once : goal.returns-else-stops_once
returns-else-stops_once c =
    let a = c.args in
    c.if-stops_once.false
    ∙ sym (first-fails a.v a.n a.plan.now _ c.requires.plan_len (omega arith) (omega arith) c.stops_once.ensures c.if-stops_once.false)
