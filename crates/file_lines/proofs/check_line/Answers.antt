use Rattle.std.proofs.Common.{sym, ap, not, arith}
use borrow.Author.Rules.{rules}
use Rattle.file_lines.proofs.Checks.{said, denied, fields-end, line-told, line-fields, line-end}
use Rattle.file_lines.proofs.check_line.Goals as goal

pub returns-then-not-check_fields : goal.returns-then-not-check_fields
returns-then-not-check_fields c h = denied c.check_fields.result (ap not c.if-not-check_fields.true) c.check_fields.ensures (line-fields _ _ _ h)

pub overflow_mul-count : goal.overflow_mul-count
overflow_mul-count c =
    omega (arith, fields-end _ _ _ (search rules) (search rules) (said c.check_fields.result (ap not c.if-not-check_fields.false) c.check_fields.ensures))

pub overflow_add-at : goal.overflow_add-at
overflow_add-at c =
    omega (arith, fields-end _ _ _ (search rules) (search rules) (said c.check_fields.result (ap not c.if-not-check_fields.false) c.check_fields.ensures))

pub returns-in-Some : goal.returns-in-Some
returns-in-Some c =
    let there = c.in-Some.ensures.lookup.3 in
    line-told _ _ _ _ (said c.check_fields.result (ap not c.if-not-check_fields.false) c.check_fields.ensures) there.0 (sym (there.1 0))

pub returns-in-None : goal.returns-in-None
returns-in-None c h = omega (arith, c.in-None.ensures.lookup.3, (line-end _ _ _ h).0)
