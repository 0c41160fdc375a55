use Rattle.std.proofs.Common.{◌≡◌, Err}
use mathlib.Core.Path.{refl, sym, ◌∙◌}
use Rattle.model.specs.Job.{of_lent}
use Rattle.model.specs.Refusals.{Arguments, asking, Rebuild}
use Rattle.model.specs.Calls.{made, begun_by, completed_by}
use Rattle.call_refusals.proofs.Accepted.{stops}
use Rattle.call_refusals.proofs.Held.{weighable, holdable, same, job's, left}
use Rattle.planner.proofs.Saying.{rebuilds-refused, rebuilds-accepted}
use borrow.Author.Rules.{rules}
use Rattle.planner.proofs.rebuild.Goals as goal
use Rattle.planner.proofs.rebuild.Goals.{After-of_rebuild}

-- what the call is given
abbrev given : After-of_rebuild → Arguments
given c =
    let a = c.args in
    asking (of_lent a.job.now) a.plan.now a.given.now

pub returns-in_err-of_rebuild : goal.returns-in_err-of_rebuild
returns-in_err-of_rebuild c =
    let r : c.from_residual.result ≡ Err c.in_err-of_rebuild.field-0.0 = search rules in
    rebuilds-refused (given (goal.at.returns-in_err-of_rebuild c).After-of_rebuild) _ _ r c.in_err-of_rebuild.ensures

-- what an accepted call is given can be rebuilt
pub tariff_of-tariff-requires : goal.tariff_of-tariff-requires
tariff_of-tariff-requires c =
    weighable Rebuild (given (goal.at.tariff_of-tariff-requires c).After-of_rebuild) (sym c.in_ok-of_rebuild.ensures) refl

pub hold-held-requires : goal.hold-held-requires
hold-held-requires c =
    holdable Rebuild (given (goal.at.hold-held-requires c).After-of_rebuild) (sym c.in_ok-of_rebuild.ensures) refl

pub rebuild-walk-requires : goal.rebuild-walk-requires
rebuild-walk-requires c = (stops Rebuild (given (goal.at.rebuild-walk-requires c).After-of_rebuild) (sym c.in_ok-of_rebuild.ensures) refl).few

pub returns : goal.returns
unfolding made begun_by completed_by
returns c =
    let A = given (goal.at.returns c).After-of_rebuild in
    let p = c.hold-held.result in
    let h = c.hold-held.ensures in
    let t = c.tariff_of-tariff in
    let d = c.rebuild-walk.ensures in
    let f = job's A p h t.result t.ensures.0 t.ensures.1 in
    rebuilds-accepted A _ _ (sym c.in_ok-of_rebuild.ensures)
    (rw (same A p h) at (d.cost A.job f)) (rw (same A p h) at d.begun) (rw (same A p h) at d.completed)
    (left A p h _ c.rebuild-walk.new.plan _ (c.copy_from_slice.ensures.after ∙ c.form.ensures) (rw (same A p h) at (d.plan A.job f)))
