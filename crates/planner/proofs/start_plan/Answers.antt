use Rattle.std.proofs.Common.{◌≡◌, Err}
use mathlib.Core.List.{[]}
use mathlib.Core.Path.{refl, sym, ap, ◌∙◌}
use native.Mathlib.Omega.{arith}
use lib.ListN.{length}
use Rattle.model.specs.Job.{priced}
use Rattle.model.specs.Refusals.{Arguments, asking, StartPlan, unpriced}
use Rattle.model.specs.Calls.{made}
use Rattle.call_refusals.proofs.Accepted.{listed}
use Rattle.planner.proofs.Saying.{writes-refused, writes-accepted}
use borrow.Author.Rules.{rules}
use Rattle.planner.proofs.start_plan.Goals as goal
use Rattle.planner.proofs.start_plan.Goals.{After-of_start_plan}

-- what the call is given
abbrev given : After-of_start_plan → Arguments
given c =
    let a = c.args in
    asking (priced a.network.now unpriced) a.plan.now []

pub returns-in_err-of_start_plan : goal.returns-in_err-of_start_plan
returns-in_err-of_start_plan c =
    let r : c.from_residual.result ≡ Err c.in_err-of_start_plan.field-0.0 = search rules in
    writes-refused (given (goal.at.returns-in_err-of_start_plan c).After-of_start_plan) _ _ r c.in_err-of_start_plan.ensures

pub legs_of-legs-requires : goal.legs_of-legs-requires
legs_of-legs-requires c = (listed StartPlan (given (goal.at.legs_of-legs-requires c).After-of_start_plan) (sym c.in_ok-of_start_plan.ensures)).limits refl

pub start_plan-held-requires : goal.start_plan-held-requires
start_plan-held-requires c = (listed StartPlan (given (goal.at.start_plan-held-requires c).After-of_start_plan) (sym c.in_ok-of_start_plan.ensures)).sizes

pub copy_from_slice-requires : goal.copy_from_slice-requires
copy_from_slice-requires c =
    let s = listed StartPlan (given (goal.at.copy_from_slice-requires c).After-of_start_plan) (sym c.in_ok-of_start_plan.ensures) in
    let d = c.start_plan-held.ensures in
    omega (arith, ap length c.form.ensures, c.start_plan-held.result.lent.long, d.vehicles, d.stops, s.long)

pub returns : goal.returns
unfolding made
returns c =
    let A = given (goal.at.returns c).After-of_start_plan in
    let e = sym c.in_ok-of_start_plan.ensures in
    let d = c.start_plan-held.ensures.start A.job unpriced (c.legs_of-legs.ensures.fits unpriced) in
    writes-accepted A _ e (c.copy_from_slice.ensures.after ∙ c.form.ensures ∙ d)
