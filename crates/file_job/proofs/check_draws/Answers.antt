use mathlib.Core.Path.{ap}
use mathlib.Core.Bool.{not}
use native.Mathlib.Omega.{arith}
use Rattle.std.proofs.lemmas.Bool.Decides.{nat_tests}
use Rattle.file_lines.proofs.Checks.{said, denied, line-end}
use Rattle.file_job.proofs.Counted.{no-count, wrong-count, no-draws, draws-whole}
use Rattle.file_job.proofs.check_draws.Goals as goal

pub returns-then-not-check_line : goal.returns-then-not-check_line
returns-then-not-check_line c =
    let called = c.check_line in
    no-count _ _ (denied called.result (ap not c.if-not-check_line.true) called.ensures)

pub returns-then-not-contains : goal.returns-then-not-contains
returns-then-not-contains c = wrong-count _ _ _ c.number_at.ensures (λ some few. grind (arith, nat_tests))

pub overflow_add-at : goal.overflow_add-at
overflow_add-at c =
    omega (arith, (line-end _ _ _ (said c.check_line.result (ap not c.if-not-check_line.false) c.check_line.ensures)).0)

pub returns-then-not-check_lines : goal.returns-then-not-check_lines
returns-then-not-check_lines c =
    let called = c.check_lines in
    no-draws _ _ _ c.number_at.ensures (denied called.result (ap not c.if-not-check_lines.true) called.ensures)

pub returns : goal.returns
returns c =
    let called = c.check_lines in
    draws-whole _ _ _ (said c.check_line.result (ap not c.if-not-check_line.false) c.check_line.ensures)
    c.number_at.ensures (grind (arith, nat_tests)) (grind (arith, nat_tests))
    (said called.result (ap not c.if-not-check_lines.false) called.ensures)
