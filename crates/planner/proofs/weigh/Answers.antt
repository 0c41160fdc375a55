use Rattle.std.proofs.Common.{◌≡◌, Err}
use mathlib.Core.List.{[]}
use mathlib.Core.Path.{refl, sym}
use Rattle.model.specs.Job.{of_lent}
use Rattle.model.specs.Refusals.{Arguments, asking, Weigh}
use Rattle.model.specs.Calls.{made}
use Rattle.call_refusals.proofs.Accepted.{lent}
use Rattle.call_refusals.proofs.Held.{weighable, holdable, same, job's}
use Rattle.planner.proofs.Saying.{weighs-refused, weighs-accepted}
use borrow.Author.Rules.{rules}
use Rattle.planner.proofs.weigh.Goals as goal
use Rattle.planner.proofs.weigh.Goals.{After-of_weigh}

-- what the call is given
abbrev given : After-of_weigh → Arguments
given c =
    let a = c.args in
    asking (of_lent a.job.now) a.plan.now []

pub returns-in_err-of_weigh : goal.returns-in_err-of_weigh
returns-in_err-of_weigh c =
    let r : c.from_residual.result ≡ Err c.in_err-of_weigh.field-0.0 = search rules in
    weighs-refused Weigh (given (goal.at.returns-in_err-of_weigh c).After-of_weigh) refl _ _ r c.in_err-of_weigh.ensures

pub tariff_of-tariff-requires : goal.tariff_of-tariff-requires
tariff_of-tariff-requires c =
    weighable Weigh (given (goal.at.tariff_of-tariff-requires c).After-of_weigh) (sym c.in_ok-of_weigh.ensures) refl

pub hold-held-requires : goal.hold-held-requires
hold-held-requires c =
    holdable Weigh (given (goal.at.hold-held-requires c).After-of_weigh) (sym c.in_ok-of_weigh.ensures) refl

pub returns : goal.returns
unfolding made
returns c =
    let A = given (goal.at.returns c).After-of_weigh in
    let e = sym c.in_ok-of_weigh.ensures in
    let p = c.hold-held.result in
    let h = c.hold-held.ensures in
    let t = c.tariff_of-tariff in
    weighs-accepted Weigh A refl _ _ e (rw (same A p h) at (c.cost.ensures.job A.job (job's A p h t.result t.ensures.0 t.ensures.1))) (lent Weigh A e refl).form
