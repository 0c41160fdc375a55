use Rattle.std.proofs.Common.{◌≡◌, ap, not, arith}
use Rattle.file_lines.proofs.Checks.{said, denied, line-end, lines_none, lines_more, lines-bad}
use Rattle.file_lines.proofs.check_lines.Goals as goal

pub loop-i-init : goal.loop-i-init
loop-i-init c = (omega arith, lines_none _ _ _)

pub returns-then-not-check_line : goal.returns-then-not-check_line
returns-then-not-check_line c =
    let called = c.check_line in
    let inv = c.loop-i.invariant in
    lines-bad _ _ _ _ _ _ inv.0 (omega arith) (denied called.result (ap not c.if-not-check_line.true) called.ensures)

pub overflow_mul-next : goal.overflow_mul-next
overflow_mul-next c =
    let called = c.check_line in
    omega (arith, (line-end _ _ _ (said called.result (ap not c.if-not-check_line.false) called.ensures)).0)

pub overflow_add-next : goal.overflow_add-next
overflow_add-next c =
    let called = c.check_line in
    omega (arith, (line-end _ _ _ (said called.result (ap not c.if-not-check_line.false) called.ensures)).0)

pub overflow_add-next-in-loop-i : goal.overflow_add-next-in-loop-i
overflow_add-next-in-loop-i c =
    let called = c.check_line in
    omega (arith, (line-end _ _ _ (said called.result (ap not c.if-not-check_line.false) called.ensures)).0)

pub loop-i-preserved : goal.loop-i-preserved
loop-i-preserved c =
    let called = c.check_line in
    let inv = c.loop-i.invariant in
    (omega arith, lines_more _ _ _ _ _ inv.0 inv.1 (said called.result (ap not c.if-not-check_line.false) called.ensures))

pub returns : goal.returns
returns c =
    let all : c.loop-i._i ≡ c.args.lines = omega arith in
    rw all at c.loop-i.invariant.1
