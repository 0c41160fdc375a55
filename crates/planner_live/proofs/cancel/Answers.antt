use Rattle.std.proofs.Common.{◌≡◌, Err}
use mathlib.Core.Path.{refl, sym, ◌∙◌}
use Rattle.model.specs.Job.{of_lent}
use Rattle.model.specs.Refusals.{Arguments, naming, Cancel}
use Rattle.model.specs.Calls.{made, new_live}
use Rattle.call_refusals.proofs.Accepted.{covers, named_small, cancelling}
use Rattle.call_refusals.proofs.Held.{weighable, holdable, same, job's, left}
use Rattle.planner_live.proofs.Exact.{cancellation-exact}
use Rattle.planner_live.proofs.Saying.{changes-refused, changes-accepted}
use borrow.Author.Rules.{rules}
use Rattle.planner_live.proofs.cancel.Goals as goal
use Rattle.planner_live.proofs.cancel.Goals.{After-of_cancel}

-- what the call is given
abbrev given : After-of_cancel → Arguments
given c =
    let a = c.args in
    naming (of_lent a.job.now) a.plan.now a.live a.stop

pub returns-in_err-of_cancel : goal.returns-in_err-of_cancel
returns-in_err-of_cancel c =
    let r : c.from_residual.result ≡ Err c.in_err-of_cancel.field-0.0 = search rules in
    changes-refused Cancel (given (goal.at.returns-in_err-of_cancel c).After-of_cancel) (cancellation-exact _) _ _ r c.in_err-of_cancel.ensures

pub tariff_of-tariff-requires : goal.tariff_of-tariff-requires
tariff_of-tariff-requires c =
    weighable Cancel (given (goal.at.tariff_of-tariff-requires c).After-of_cancel) (sym c.in_ok-of_cancel.ensures) refl

pub hold-held-requires : goal.hold-held-requires
hold-held-requires c =
    holdable Cancel (given (goal.at.hold-held-requires c).After-of_cancel) (sym c.in_ok-of_cancel.ensures) refl

pub cancel-cost-requires : goal.cancel-cost-requires
cancel-cost-requires c =
    let A = given (goal.at.cancel-cost-requires c).After-of_cancel in
    let e = sym c.in_ok-of_cancel.ensures in
    let h = c.hold-held.ensures in
    let s = cancelling _ _ _ _ e in
    record { covers = rw (same A c.hold-held.result h, h.1) (covers Cancel _ _ _ _ e refl); below = rw h.1 s.0; present = s.1 }

pub without-requires : goal.without-requires
without-requires c = named_small _ _ _ _ Cancel (sym c.in_ok-of_cancel.ensures) refl

pub returns : goal.returns
unfolding made new_live
returns c =
    let A = given (goal.at.returns c).After-of_cancel in
    let h = c.hold-held.ensures in
    let t = c.tariff_of-tariff in
    let d = c.cancel-cost.ensures in
    changes-accepted Cancel A (cancellation-exact _) _ _ _ (sym c.in_ok-of_cancel.ensures) c.without.ensures
    (rw (same A c.hold-held.result h) at (d.value A.job (job's A c.hold-held.result h t.result t.ensures.0 t.ensures.1)))
    (left A c.hold-held.result h _ c.cancel-cost.new.plan _ (c.copy_from_slice.ensures.after ∙ c.form.ensures) (rw (same A c.hold-held.result h) at d.plan_after))
