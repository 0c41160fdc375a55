use Rattle.std.proofs.Common.{◌≡◌, Err}
use mathlib.Core.Path.{refl, sym, ◌∙◌}
use mir.Syntax.{w64}
use mir.ValLaws.{to_z-of_z}
use Rattle.model.specs.Job.{of_lent}
use Rattle.model.specs.Refusals.{Arguments, moving, MoveStop}
use Rattle.call_refusals.proofs.Accepted.{allowed}
use Rattle.call_refusals.proofs.Held.{weighable, holdable, same, job's, left}
use Rattle.call_refusals.proofs.Answers.{moves-refused, moves-accepted}
use borrow.Author.Rules.{rules}
use Rattle.planner_vans.proofs.move_stop.Goals as goal
use Rattle.planner_vans.proofs.move_stop.Goals.{After-of_move_stop}

-- what the call is given
abbrev given : After-of_move_stop → Arguments
given c =
    moving (of_lent c.args.job.now) c.args.plan.now c.args.vans c.args.m

pub returns-in_err-of_move_stop : goal.returns-in_err-of_move_stop
returns-in_err-of_move_stop c =
    let r : c.from_residual.result ≡ Err c.in_err-of_move_stop.field-0.0 = search rules in
    moves-refused (given (goal.at.returns-in_err-of_move_stop c).After-of_move_stop) _ _ r c.in_err-of_move_stop.ensures

pub tariff_of-tariff-requires : goal.tariff_of-tariff-requires
tariff_of-tariff-requires c =
    weighable MoveStop (given (goal.at.tariff_of-tariff-requires c).After-of_move_stop) (sym c.in_ok-of_move_stop.ensures) refl

pub hold-held-requires : goal.hold-held-requires
hold-held-requires c =
    holdable MoveStop (given (goal.at.hold-held-requires c).After-of_move_stop) (sym c.in_ok-of_move_stop.ensures) refl

pub move_stop-change-requires : goal.move_stop-change-requires
move_stop-change-requires c =
    let A = given (goal.at.move_stop-change-requires c).After-of_move_stop in
    let h = c.hold-held.ensures in
    let m = allowed _ _ _ _ (sym c.in_ok-of_move_stop.ensures) in
    record { stop = rw h.1 m.stop; van = rw h.0 m.van; place = rw (same A c.hold-held.result h) m.place }

pub returns : goal.returns
returns c =
    let A = given (goal.at.returns c).After-of_move_stop in
    let e = sym c.in_ok-of_move_stop.ensures in
    let p = c.hold-held.result in
    let h = c.hold-held.ensures in
    let t = c.tariff_of-tariff in
    let d = c.move_stop-change.ensures in
    moves-accepted A _ _ e
    (to_z-of_z w64 _ (record { sfits = c.move_stop-change.type_inv })
    ∙ (rw (same A p h) at (d.changes A.job (job's A p h t.result t.ensures.0 t.ensures.1) A.vans)) (allowed _ _ _ _ e).held)
    (left A p h _ c.move_stop-change.new.plan _ (c.copy_from_slice.ensures.after ∙ c.form.ensures) (rw (same A p h) at d.plan_after))
