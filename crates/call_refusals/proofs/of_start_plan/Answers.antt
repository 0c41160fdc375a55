use Rattle.std.proofs.Common.{rules, ◌≡◌, Err}
use Rattle.model.specs.Numbers.{refused}
use mathlib.Core.Path.{refl, sym, ◌∙◌, ap}
use Rattle.call_refusals.proofs.Order.{start-order, said-first, passed_first}
use Rattle.call_refusals.proofs.of_start_plan.Goals as goal

pub returns-in_err-of_shape : goal.returns-in_err-of_shape
returns-in_err-of_shape c = let e : c.from_residual.result ≡ Err c.in_err-of_shape.field-0.0 = search rules in ap refused e ∙ said-first _ _ _ c.in_err-of_shape.ensures ∙ sym (start-order _ refl)

pub returns : goal.returns
returns c = passed_first _ _ _ c.in_ok-of_shape.ensures c.of_entries.ensures ∙ sym (start-order _ refl)
