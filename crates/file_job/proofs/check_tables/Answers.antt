use mathlib.Core.Path.{ap}
use mathlib.Core.Bool.{Bool, true, false, not}
use Rattle.file_lines.specs.Standing.{Says}
use native.Mathlib.Omega.{arith}
use borrow.Author.Rules.{rules}
use Rattle.file_lines.proofs.Checks.{said, denied, lines_end}
use Rattle.file_job.proofs.check_tables.Goals as goal

pub returns-then-not-check_lines : goal.returns-then-not-check_lines
returns-then-not-check_lines c t = denied c.check_lines.result (ap not c.if-not-check_lines.true) c.check_lines.ensures t.vehicles

pub overflow_mul-stops : goal.overflow_mul-stops
overflow_mul-stops c =
    let called = c.check_lines in
    omega (arith, lines_end _ _ _ _ (search rules) (search rules) (said called.result (ap not c.if-not-check_lines.false) called.ensures))

pub overflow_add-stops : goal.overflow_add-stops
overflow_add-stops c =
    let called = c.check_lines in
    omega (arith, lines_end _ _ _ _ (search rules) (search rules) (said called.result (ap not c.if-not-check_lines.false) called.ensures))

pub returns-then-not-check_lines-2 : goal.returns-then-not-check_lines-2
returns-then-not-check_lines-2 c t = denied c.check_lines-2.result (ap not c.if-not-check_lines-2.true) c.check_lines-2.ensures t.stops

pub overflow_mul-distances : goal.overflow_mul-distances
overflow_mul-distances c =
    let first = lines_end _ _ _ _ (search rules) (search rules) (said c.check_lines.result (ap not c.if-not-check_lines.false) c.check_lines.ensures) in
    let called = c.check_lines-2 in
    omega (arith, lines_end _ _ _ _ first (search rules) (said called.result (ap not c.if-not-check_lines-2.false) called.ensures))

pub overflow_add-distances : goal.overflow_add-distances
overflow_add-distances c =
    let first = lines_end _ _ _ _ (search rules) (search rules) (said c.check_lines.result (ap not c.if-not-check_lines.false) c.check_lines.ensures) in
    let called = c.check_lines-2 in
    omega (arith, lines_end _ _ _ _ first (search rules) (said called.result (ap not c.if-not-check_lines-2.false) called.ensures))

-- what is said of a statement is said of one that holds exactly where it does
told : {P Q : Type 0} → (P → Q) → (Q → P) → (b : Bool) → Says b P → Says b Q
told f g true s = f s
told f g false s = λ q. s (g q)

pub returns : goal.returns
returns c =
    told
    (λ d.
    record {
      vehicles = said c.check_lines.result (ap not c.if-not-check_lines.false) c.check_lines.ensures;
      stops = said c.check_lines-2.result (ap not c.if-not-check_lines-2.false) c.check_lines-2.ensures;
      distances = d;
    })
    (λ t. t.distances) c.check_lines-3.result c.check_lines-3.ensures
