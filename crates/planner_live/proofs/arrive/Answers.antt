use Rattle.std.proofs.Common.{◌≡◌, Err}
use mathlib.Core.Path.{refl, sym, ◌∙◌}
use Rattle.model.specs.Job.{of_lent}
use Rattle.model.specs.Refusals.{Arguments, naming, Arrive}
use Rattle.model.specs.Calls.{made, new_live}
use Rattle.call_refusals.proofs.Accepted.{covers, named_small, arriving}
use Rattle.call_refusals.proofs.Held.{weighable, holdable, same, job's, left}
use Rattle.planner_live.proofs.Exact.{arrival-exact}
use Rattle.planner_live.proofs.Saying.{changes-refused, changes-accepted}
use borrow.Author.Rules.{rules}
use Rattle.planner_live.proofs.arrive.Goals as goal
use Rattle.planner_live.proofs.arrive.Goals.{After-of_arrive}

-- what the call is given
abbrev given : After-of_arrive → Arguments
given c =
    let a = c.args in
    naming (of_lent a.job.now) a.plan.now a.live a.stop

pub returns-in_err-of_arrive : goal.returns-in_err-of_arrive
returns-in_err-of_arrive c =
    let r : c.from_residual.result ≡ Err c.in_err-of_arrive.field-0.0 = search rules in
    changes-refused Arrive (given (goal.at.returns-in_err-of_arrive c).After-of_arrive) (arrival-exact _) _ _ r c.in_err-of_arrive.ensures

pub tariff_of-tariff-requires : goal.tariff_of-tariff-requires
tariff_of-tariff-requires c =
    weighable Arrive (given (goal.at.tariff_of-tariff-requires c).After-of_arrive) (sym c.in_ok-of_arrive.ensures) refl

pub hold-held-requires : goal.hold-held-requires
hold-held-requires c =
    holdable Arrive (given (goal.at.hold-held-requires c).After-of_arrive) (sym c.in_ok-of_arrive.ensures) refl

pub arrive-cost-requires : goal.arrive-cost-requires
arrive-cost-requires c =
    let A = given (goal.at.arrive-cost-requires c).After-of_arrive in
    let e = sym c.in_ok-of_arrive.ensures in
    let h = c.hold-held.ensures in
    let s = arriving _ _ _ _ e in
    record { covers = rw (same A c.hold-held.result h, h.1) (covers Arrive _ _ _ _ e refl); below = rw h.1 s.0; absent = s.1 }

pub with-requires : goal.with-requires
with-requires c = named_small _ _ _ _ Arrive (sym c.in_ok-of_arrive.ensures) refl

pub returns : goal.returns
unfolding made new_live
returns c =
    let A = given (goal.at.returns c).After-of_arrive in
    let h = c.hold-held.ensures in
    let t = c.tariff_of-tariff in
    let d = c.arrive-cost.ensures in
    let f = job's A c.hold-held.result h t.result t.ensures.0 t.ensures.1 in
    changes-accepted Arrive A (arrival-exact _) _ _ _ (sym c.in_ok-of_arrive.ensures) c.with.ensures
    (rw (same A c.hold-held.result h) at (d.value A.job f))
    (left A c.hold-held.result h _ c.arrive-cost.new.plan _ (c.copy_from_slice.ensures.after ∙ c.form.ensures) (rw (same A c.hold-held.result h) at (d.plan_after A.job f)))
