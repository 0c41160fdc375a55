use Rattle.std.proofs.Common.{lit≤}
use native.Mathlib.Omega.{arith}
use Rattle.sheet_head.proofs.Lines.{no_number, number-within, no-given, stops-fit, no-plan, numbers_fit, head_read}
use Rattle.sheet_head.proofs.read_head.Goals as goal

pub returns-in_err-call : goal.returns-in_err-call
returns-in_err-call c = rw c.from_residual.ensures (no_number _ _ _ c.in_err-call.ensures (omega arith))

pub overflow_add-first : goal.overflow_add-first
overflow_add-first c = omega (arith, number-within _ _ _ c.in_ok-call.ensures)

pub returns-in_err-g : goal.returns-in_err-g
returns-in_err-g c =
    let f = c.check_given in
    rw c.from_residual-in_err-g.ensures (no-given _ _ _ c.in_ok-call.ensures f.result f.ensures c.in_err-g.was)

pub returns-in_err-p : goal.returns-in_err-p
returns-in_err-p c =
    let f = c.check_given in
    let h = c.check_plan in
    rw c.from_residual-in_err-p.ensures
    (no-plan _ _ _ c.in_ok-call.ensures f.result f.ensures _ c.in_ok-g.was h.result h.ensures c.in_err-p.was)

pub fill_list-requires : goal.fill_list-requires
fill_list-requires c =
    let f = c.check_given in
    stops-fit _ _ _ c.in_ok-call.ensures f.result f.ensures _ c.in_ok-g.was _ (lit≤ tt)

pub fill_list-requires-2 : goal.fill_list-requires-2
fill_list-requires-2 c =
    let h = c.check_plan in
    let f = c.check_given in
    numbers_fit _ _ _ c.in_ok-call.ensures f.result f.ensures _ c.in_ok-g.was h.result h.ensures _ c.in_ok-p.was _ (lit≤ tt)

pub returns : goal.returns
returns c =
    let h = c.check_plan in
    let f = c.check_given in
    head_read _ _ _ c.in_ok-call.ensures f.result f.ensures _ c.in_ok-g.was h.result h.ensures _ c.in_ok-p.was _ _ _ _
    c.fill_list.ensures c.fill_list-2.ensures
