use Rattle.std.proofs.Common.{rules, ◌≡◌, Err}
use Rattle.model.specs.Numbers.{refused}
use mathlib.Core.Path.{refl, sym, ap, ◌∙◌}
use mathlib.Core.Bool.{not}
use Rattle.model.specs.Refusals.{bad_plan}
use Rattle.call_refusals.proofs.Order.{weigh-order, said-first, passed_first, taken, left}
use Rattle.call_refusals.proofs.Passed.{job-sized}
use Rattle.call_refusals.proofs.of_weigh.Goals as goal

pub returns-in_err-of_job : goal.returns-in_err-of_job
returns-in_err-of_job c = let e : c.from_residual.result ≡ Err c.in_err-of_job.field-0.0 = search rules in ap refused e ∙ said-first _ _ _ c.in_err-of_job.ensures ∙ sym (weigh-order _ refl)

pub is_plan-requires : goal.is_plan-requires
is_plan-requires c =
    let s = job-sized _ _ _ _ _ _ _ c.in_ok-of_job.ensures refl in
    record { sizes = s.sizes; plan_len = s.long }

pub returns : goal.returns
unfolding bad_plan
returns c =
    passed_first _ _ _ c.in_ok-of_job.ensures (left _ _ 11 0 0 (ap not c.is_plan.ensures) (ap not c.if-not-is_plan.false) refl)
    ∙ sym (weigh-order _ refl)

pub returns-then-not-is_plan : goal.returns-then-not-is_plan
unfolding bad_plan
returns-then-not-is_plan c =
    passed_first _ _ _ c.in_ok-of_job.ensures (taken _ _ 11 0 (ap not c.is_plan.ensures) (ap not c.if-not-is_plan.true))
    ∙ sym (weigh-order _ refl)
