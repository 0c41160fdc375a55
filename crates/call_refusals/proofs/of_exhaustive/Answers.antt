use Rattle.std.proofs.Common.{rules, ◌≡◌, ap, Err}
use mathlib.Core.Path.{refl, sym, ◌∙◌}
use Rattle.model.specs.Numbers.{refused}
use Rattle.call_refusals.proofs.Order.{exhaustive-order, said-first, passed_first, taken, left}
use Rattle.call_refusals.proofs.of_exhaustive.Goals as goal

pub returns-in_err-of_job : goal.returns-in_err-of_job
returns-in_err-of_job c = let e : c.from_residual.result ≡ Err c.in_err-of_job.field-0.0 = search rules in ap refused e ∙ said-first _ _ _ c.in_err-of_job.ensures ∙ sym (exhaustive-order _ refl)

pub returns-then-too_large : goal.returns-then-too_large
returns-then-too_large c =
    passed_first _ _ _ c.in_ok-of_job.ensures (taken _ _ 13 0 c.too_large.ensures c.if-too_large.true)
    ∙ sym (exhaustive-order _ refl)

pub returns : goal.returns
returns c =
    passed_first _ _ _ c.in_ok-of_job.ensures (left _ _ 13 0 0 c.too_large.ensures c.if-too_large.false refl)
    ∙ sym (exhaustive-order _ refl)
