use mathlib.Core.Path.{ap}
use mathlib.Core.Bool.{not}
use native.Mathlib.Omega.{arith}
use Rattle.file_lines.proofs.Checks.{said, denied}
use Rattle.file_job.proofs.First.{no-first-room, no-first-five, no-first-missed, no-first-two, first-whole}
use Rattle.file_job.proofs.read_first_line.Goals as goal

pub returns-in_err-get : goal.returns-in_err-get
returns-in_err-get c =
    let s = c.args in rw c.from_residual.ensures (no-first-room s.bytes.now s.at (omega (arith, c.in_err-get.ensures.lookup.0)))

pub returns-then-branch-lt113 : goal.returns-then-branch-lt113
returns-then-branch-lt113 c =
    let s = c.args in no-first-room s.bytes.now s.at (omega (arith, c.if-branch-lt113.true, c.in_ok-get.ensures.lookup.0.3))

pub returns-then-not-check_fields : goal.returns-then-not-check_fields
returns-then-not-check_fields c =
    let called = c.check_fields in
    no-first-five _ _ (denied called.result (ap not c.if-not-check_fields.true) called.ensures)

pub returns-in_err-missed : goal.returns-in_err-missed
returns-in_err-missed c =
    let s = c.args in
    let read = c.read_field in
    rw c.from_residual-in_err-missed.ensures (no-first-missed s.bytes.now s.at read.result read.ensures c.in_err-missed.was)

pub returns-then-not-check_line : goal.returns-then-not-check_line
returns-then-not-check_line c =
    let s = c.args in
    let called = c.check_line in
    no-first-two s.bytes.now s.at (denied called.result (ap not c.if-not-check_line.true) called.ensures)

pub returns : goal.returns
returns c =
    let two = c.check_line in
    let read = c.read_field in
    let five = c.check_fields in
    let s = c.args in
    first-whole s.bytes.now s.at _ read.result
    (said five.result (ap not c.if-not-check_fields.false) five.ensures)
    read.ensures
    c.in_ok-missed.was
    (said two.result (ap not c.if-not-check_line.false) two.ensures)
    c.number_at.ensures
    c.number_at-2.ensures
    c.number_at-3.ensures
    c.number_at-4.ensures
    c.number_at-5.ensures
    c.number_at-6.ensures
    c.number_at-7.ensures
