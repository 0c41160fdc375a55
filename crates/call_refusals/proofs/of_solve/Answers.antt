use Rattle.std.proofs.Common.{rules, ◌≡◌, Err}
use Rattle.model.specs.Numbers.{refused}
use mathlib.Core.Path.{refl, sym, ◌∙◌, ap}
use Rattle.call_refusals.proofs.Order.{solve-order, said-first, passed_first, taken, left}
use Rattle.call_refusals.proofs.of_solve.Goals as goal

pub returns-in_err-of_shape : goal.returns-in_err-of_shape
returns-in_err-of_shape c = let e : c.from_residual.result ≡ Err c.in_err-of_shape.field-0.0 = search rules in ap refused e ∙ said-first _ _ _ c.in_err-of_shape.ensures ∙ sym (solve-order _ refl)

pub returns-then-bad_draws : goal.returns-then-bad_draws
returns-then-bad_draws c =
    passed_first _ _ _ c.in_ok-of_shape.ensures (taken _ _ 5 _ c.bad_draws.ensures c.if-bad_draws.true)
    ∙ sym (solve-order _ refl)

pub returns-in_err-of_entries : goal.returns-in_err-of_entries
returns-in_err-of_entries c =
    let e : c.from_residual-in_err-of_entries.result ≡ Err c.in_err-of_entries.field-0.0 = search rules in
    ap refused e
    ∙ passed_first _ _ _ c.in_ok-of_shape.ensures
    (left _ _ 5 _ _ c.bad_draws.ensures c.if-bad_draws.false (said-first _ _ _ c.in_err-of_entries.ensures))
    ∙ sym (solve-order _ refl)

pub returns : goal.returns
returns c =
    passed_first _ _ _ c.in_ok-of_shape.ensures
    (left _ _ 5 _ _ c.bad_draws.ensures c.if-bad_draws.false (passed_first _ _ _ c.in_ok-of_entries.ensures c.of_numbers.ensures))
    ∙ sym (solve-order _ refl)
