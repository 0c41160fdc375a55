use Rattle.std.proofs.Common.{rules, ◌≡◌, Err}
use Rattle.model.specs.Numbers.{refused}
use mathlib.Core.Path.{refl, sym, ap, ◌∙◌}
use mathlib.Core.Bool.{not}
use Rattle.model.specs.Refusals.{bad_plan}
use Rattle.call_refusals.proofs.Order.{road-order, said-first, passed_first, taken, left}
use Rattle.call_refusals.proofs.Passed.{shape-sized, shape-square}
use Rattle.call_refusals.proofs.of_roadworks.Goals as goal

pub returns-in_err-of_shape : goal.returns-in_err-of_shape
returns-in_err-of_shape c = let e : c.from_residual.result ≡ Err c.in_err-of_shape.field-0.0 = search rules in ap refused e ∙ said-first _ _ _ c.in_err-of_shape.ensures ∙ sym (road-order _ _ _)

pub of_road-requires : goal.of_road-requires
of_road-requires c = shape-square _ _ _ _ _ _ c.in_ok-of_shape.ensures refl

pub returns-in_err-of_road : goal.returns-in_err-of_road
returns-in_err-of_road c =
    let e : c.from_residual-in_err-of_road.result ≡ Err c.in_err-of_road.field-0.0 = search rules in ap refused e ∙ passed_first _ _ _ c.in_ok-of_shape.ensures (said-first _ _ _ c.in_err-of_road.ensures)
    ∙ sym (road-order _ _ _)

pub returns-then-bad_prices : goal.returns-then-bad_prices
returns-then-bad_prices c =
    passed_first _ _ _ c.in_ok-of_shape.ensures
    (passed_first _ _ _ c.in_ok-of_road.ensures (taken _ _ 8 _ c.bad_prices.ensures c.if-bad_prices.true))
    ∙ sym (road-order _ _ _)

pub is_plan-requires : goal.is_plan-requires
is_plan-requires c =
    let z = shape-sized _ _ _ _ _ _ c.in_ok-of_shape.ensures refl in
    record { sizes = z.sizes; plan_len = z.long }

pub returns : goal.returns
unfolding bad_plan
returns c =
    passed_first _ _ _ c.in_ok-of_shape.ensures
    (passed_first _ _ _ c.in_ok-of_road.ensures
    (left _ _ 8 _ _ c.bad_prices.ensures c.if-bad_prices.false (left _ _ 11 0 0 (ap not c.is_plan.ensures) (ap not c.if-not-is_plan.false) refl)))
    ∙ sym (road-order _ _ _)

pub returns-then-not-is_plan : goal.returns-then-not-is_plan
unfolding bad_plan
returns-then-not-is_plan c =
    passed_first _ _ _ c.in_ok-of_shape.ensures
    (passed_first _ _ _ c.in_ok-of_road.ensures
    (left _ _ 8 _ _ c.bad_prices.ensures c.if-bad_prices.false (taken _ _ 11 0 (ap not c.is_plan.ensures) (ap not c.if-not-is_plan.true))))
    ∙ sym (road-order _ _ _)
