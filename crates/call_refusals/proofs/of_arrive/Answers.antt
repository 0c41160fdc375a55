use Rattle.std.proofs.Common.{rules, ◌≡◌, Err}
use Rattle.model.specs.Numbers.{refused}
use mathlib.Core.Path.{refl, sym, ◌∙◌, ap}
use Rattle.model.specs.Refusals.{Rebuild}
use Rattle.call_refusals.proofs.Order.{arrive-order, said-first, passed_first, taken, left}
use Rattle.call_refusals.proofs.Accepted.{named_small}
use Rattle.call_refusals.proofs.of_arrive.Goals as goal

pub returns-in_err-of_live : goal.returns-in_err-of_live
returns-in_err-of_live c = let e : c.from_residual.result ≡ Err c.in_err-of_live.field-0.0 = search rules in ap refused e ∙ said-first _ _ _ c.in_err-of_live.ensures ∙ sym (arrive-order _ refl)

pub bad_arrival-requires : goal.bad_arrival-requires
bad_arrival-requires c = named_small _ _ _ _ Rebuild (sym c.in_ok-of_live.ensures) refl

pub returns-then-bad_arrival : goal.returns-then-bad_arrival
returns-then-bad_arrival c =
    passed_first _ _ _ c.in_ok-of_live.ensures (taken _ _ 16 0 c.bad_arrival.ensures c.if-bad_arrival.true)
    ∙ sym (arrive-order _ refl)

pub returns : goal.returns
returns c =
    passed_first _ _ _ c.in_ok-of_live.ensures (left _ _ 16 0 0 c.bad_arrival.ensures c.if-bad_arrival.false refl)
    ∙ sym (arrive-order _ refl)
