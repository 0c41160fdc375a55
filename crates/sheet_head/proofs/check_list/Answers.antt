use mathlib.Core.Path.{ap}
use mathlib.Core.Bool.{not}
use native.Mathlib.Omega.{arith}
use Rattle.file_lines.proofs.Checks.{said, denied}
use Rattle.sheet_head.proofs.Lists.{too_few, no_line, line-within, list_read}
use Rattle.sheet_head.proofs.check_list.Goals as goal

pub returns-then-count-least : goal.returns-then-count-least
returns-then-count-least c = too_few _ _ _ _ _ c.count_fields-count.ensures c.if-count-least.true

pub returns-then-not-check_line : goal.returns-then-not-check_line
returns-then-not-check_line c =
    let k = c.check_line in
    no_line _ _ _ _ _ c.count_fields-count.ensures (denied k.result (ap not c.if-not-check_line.true) k.ensures)

pub overflow_mul-result : goal.overflow_mul-result
overflow_mul-result c =
    let k = c.check_line in
    omega (arith, line-within _ _ 0 _ _ c.count_fields-count.ensures (said k.result (ap not c.if-not-check_line.false) k.ensures))

pub overflow_add-result : goal.overflow_add-result
overflow_add-result c =
    let k = c.check_line in
    omega (arith, line-within _ _ 0 _ _ c.count_fields-count.ensures (said k.result (ap not c.if-not-check_line.false) k.ensures))

pub overflow_add-result-2 : goal.overflow_add-result-2
overflow_add-result-2 c =
    let k = c.check_line in
    omega (arith, line-within _ _ 0 _ _ c.count_fields-count.ensures (said k.result (ap not c.if-not-check_line.false) k.ensures))

pub returns : goal.returns
returns c =
    let k = c.check_line in
    list_read _ _ _ _ _ c.count_fields-count.ensures (said k.result (ap not c.if-not-check_line.false) k.ensures) (omega arith)
