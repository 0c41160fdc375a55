use Rattle.std.proofs.Common.{arith}
use Rattle.file_lines.proofs.Checks.{fields-none, fields-more, field-within, fields-bad, fields-large}
use Rattle.file_lines.proofs.check_fields.Goals as goal

pub loop-i-init : goal.loop-i-init
loop-i-init c = (omega arith, fields-none _ _)

pub overflow_add-next : goal.overflow_add-next
overflow_add-next c =
    let read = c.read_field in
    omega (arith, field-within c.args.bytes.now _ _ read.result read.ensures c.in-Some.is)

pub loop-i-preserved : goal.loop-i-preserved
loop-i-preserved c =
    let read = c.read_field in
    let inv = c.loop-i.invariant in
    (omega arith, fields-more _ _ _ _ _ read.result inv.0 inv.1 read.ensures c.in-Some.is (omega arith))

pub returns-in_default : goal.returns-in_default
returns-in_default c =
    let read = c.read_field in
    fields-large _ _ _ _ _ _ read.result c.loop-i.invariant.0 (omega arith) read.ensures c.in-Some.is (omega arith)

pub returns-in_default-2 : goal.returns-in_default-2
returns-in_default-2 c =
    let read = c.read_field in
    fields-bad _ _ _ _ _ read.result c.loop-i.invariant.0 (omega arith) read.ensures c.in_default.is
