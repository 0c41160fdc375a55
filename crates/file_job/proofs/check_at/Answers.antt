use mathlib.Core.Path.{◌≡◌, ap}
use mathlib.Core.Bool.{not}
use Prim.Native.Nat.{◌+◌, ◌≤◌}
use native.Mathlib.Omega.{arith}
use lib.ListN.{length}
use borrow.Author.Rules.{rules}
use Rattle.std.proofs.Common.{Option, Some, None, Err, ok_or}
use Rattle.file_lines.proofs.Checks.{said, denied}
use Rattle.model.specs.declared.refusal.Refusal.{Refusal}
use Rattle.model.specs.declared.refusal.Refusal.TheVariants.{File}
use Rattle.file_job.proofs.Checked.{table-bytes, no-first, first-within, over-limit, no-tables, no-draws-there, few-draws, all-checked}
use Rattle.file_job.proofs.check_at.Goals as goal
use Rattle.file_job.proofs.check_at.Goals.{In_ok-first}

-- an Option that is opened or refused
refused : {T : Type 0} (o : Option T) (x : Refusal) → Err x ≡ ok_or o File → x ≡ File
refused None x e = cc
refused (Some t) x e = absurd (cc)

-- the first line stands within the bytes
within : (a : In_ok-first) → a.args.at + 113 ≤ length a.args.bytes.now
within a = let read = a.read_first_line in first-within _ _ read.result read.ensures _ a.in_ok-first.ensures.ok_part

pub returns-in_err-first : goal.returns-in_err-first
returns-in_err-first c =
    let read = c.read_first_line in
    let none = c.in_err-first.ensures in
    let e : c.from_residual.result ≡ Err c.in_err-first.field-0.0 = search rules in
    rw (e, refused _ _ none.value) (no-first _ _ read.result read.ensures none.ok_part)

pub returns-then-v-gt16 : goal.returns-then-v-gt16
returns-then-v-gt16 c =
    let read = c.read_first_line in
    over-limit _ _ read.result read.ensures _ c.in_ok-first.ensures.ok_part (λ v n l. grind arith)

pub overflow_add-at : goal.overflow_add-at
overflow_add-at c = omega (arith, within (goal.at.overflow_add-at c).In_ok-first)

pub returns-then-not-check_tables : goal.returns-then-not-check_tables
returns-then-not-check_tables c =
    let read = c.read_first_line in
    let called = c.check_tables in
    no-tables _ _ read.result read.ensures _ c.in_ok-first.ensures.ok_part (denied called.result (ap not c.if-not-check_tables.true) called.ensures)

pub overflow_add-count : goal.overflow_add-count
overflow_add-count c = omega (arith, within (goal.at.overflow_add-count c).In_ok-first)

pub overflow_add-count-2 : goal.overflow_add-count-2
overflow_add-count-2 c = omega (arith, within (goal.at.overflow_add-count-2 c).In_ok-first)

pub overflow_add-count-3 : goal.overflow_add-count-3
overflow_add-count-3 c = omega (arith, within (goal.at.overflow_add-count-3 c).In_ok-first)

pub overflow_mul-count-4 : goal.overflow_mul-count-4
overflow_mul-count-4 c = omega (arith, table-bytes _ c.if-l-gt80.false)

pub overflow_add-count-5 : goal.overflow_add-count-5
overflow_add-count-5 c = omega (arith, within (goal.at.overflow_add-count-5 c).In_ok-first, table-bytes _ c.if-l-gt80.false)

pub returns-in_err-draws : goal.returns-in_err-draws
returns-in_err-draws c =
    let read = c.read_first_line in
    let drawn = c.check_draws in
    let none = c.in_err-draws.ensures in
    let e : c.from_residual-in_err-draws.result ≡ Err c.in_err-draws.field-0.0 = search rules in
    rw (e, refused _ _ none.value)
    (no-draws-there _ _ read.result read.ensures _ c.in_ok-first.ensures.ok_part drawn.result drawn.ensures none.ok_part)

pub overflow_add-result : goal.overflow_add-result
overflow_add-result c =
    let read = c.read_first_line in
    let drawn = c.check_draws in
    omega (
      arith,
      within (goal.at.overflow_add-result c).In_ok-first,
      table-bytes _ c.if-l-gt80.false,
      few-draws _ _ read.result read.ensures _ c.in_ok-first.ensures.ok_part _ drawn.result drawn.ensures c.in_ok-draws.ensures.ok_part,
    )

pub overflow_mul-result : goal.overflow_mul-result
overflow_mul-result c =
    let read = c.read_first_line in
    let drawn = c.check_draws in
    omega (
      arith,
      within (goal.at.overflow_mul-result c).In_ok-first,
      table-bytes _ c.if-l-gt80.false,
      few-draws _ _ read.result read.ensures _ c.in_ok-first.ensures.ok_part _ drawn.result drawn.ensures c.in_ok-draws.ensures.ok_part,
    )

pub overflow_add-result-2 : goal.overflow_add-result-2
overflow_add-result-2 c =
    let read = c.read_first_line in
    let drawn = c.check_draws in
    omega (
      arith,
      within (goal.at.overflow_add-result-2 c).In_ok-first,
      table-bytes _ c.if-l-gt80.false,
      few-draws _ _ read.result read.ensures _ c.in_ok-first.ensures.ok_part _ drawn.result drawn.ensures c.in_ok-draws.ensures.ok_part,
    )

pub returns : goal.returns
returns c =
    let read = c.read_first_line in
    let drawn = c.check_draws in
    all-checked _ _ read.result read.ensures _ c.in_ok-first.ensures.ok_part _ drawn.result drawn.ensures c.in_ok-draws.ensures.ok_part
    (omega arith, omega arith, omega arith)
    (said c.check_tables.result (ap not c.if-not-check_tables.false) c.check_tables.ensures)
