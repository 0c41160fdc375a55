use Rattle.std.proofs.Common.{rules, ◌≡◌, Err}
use Rattle.model.specs.Numbers.{refused}
use mathlib.Core.Path.{refl, ◌∙◌, ap}
use Rattle.call_refusals.proofs.Order.{job-order, said-first, passed_first, taken, left}
use Rattle.call_refusals.proofs.of_job.Goals as goal

pub returns-in_err-of_start_plan : goal.returns-in_err-of_start_plan
returns-in_err-of_start_plan c = let e : c.from_residual.result ≡ Err c.in_err-of_start_plan.field-0.0 = search rules in ap refused e ∙ said-first _ _ _ c.in_err-of_start_plan.ensures ∙ job-order _ _ _ _ _ _

pub returns-then-bad_prices : goal.returns-then-bad_prices
returns-then-bad_prices c =
    passed_first _ _ _ c.in_ok-of_start_plan.ensures (taken _ _ 8 0 c.bad_prices.ensures c.if-bad_prices.true)
    ∙ job-order _ _ _ _ _ _

pub returns : goal.returns
returns c =
    passed_first _ _ _ c.in_ok-of_start_plan.ensures (left _ _ 8 0 0 c.bad_prices.ensures c.if-bad_prices.false refl)
    ∙ job-order _ _ _ _ _ _
