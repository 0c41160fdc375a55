use Rattle.std.proofs.Common.{rules, ◌≡◌, Err}
use Rattle.model.specs.Numbers.{refused}
use mathlib.Core.Path.{refl, sym, ◌∙◌, ap}
use Rattle.model.specs.Refusals.{Weigh}
use Rattle.call_refusals.proofs.Order.{rebuild-order, said-first, passed_first, taken, left}
use Rattle.call_refusals.proofs.Passed.{sized}
use Rattle.call_refusals.proofs.of_rebuild.Goals as goal

pub returns-in_err-of_weigh : goal.returns-in_err-of_weigh
returns-in_err-of_weigh c = let e : c.from_residual.result ≡ Err c.in_err-of_weigh.field-0.0 = search rules in ap refused e ∙ said-first _ _ _ c.in_err-of_weigh.ensures ∙ sym (rebuild-order _ _ _)

pub bad_given-requires : goal.bad_given-requires
bad_given-requires c = (sized Weigh _ refl refl refl (sym c.in_ok-of_weigh.ensures)).sizes.stops

pub returns-then-bad_given : goal.returns-then-bad_given
returns-then-bad_given c =
    passed_first _ _ _ c.in_ok-of_weigh.ensures (taken _ _ 12 0 c.bad_given.ensures c.if-bad_given.true)
    ∙ sym (rebuild-order _ _ _)

pub returns : goal.returns
returns c =
    passed_first _ _ _ c.in_ok-of_weigh.ensures (left _ _ 12 0 0 c.bad_given.ensures c.if-bad_given.false refl)
    ∙ sym (rebuild-order _ _ _)
