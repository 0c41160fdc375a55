use Rattle.std.proofs.Common.{rules, ◌≡◌, Err}
use Rattle.model.specs.Numbers.{refused}
use mathlib.Core.Path.{refl, sym, ◌∙◌, ap}
use Prim.Native.Nat.{◌/◌}
use lib.ListN.{length}
use Rattle.model.specs.Refusals.{Weigh, bad_live}
use Rattle.call_refusals.proofs.Order.{live-order, said-first, passed_first, taken, left}
use Rattle.call_refusals.proofs.Passed.{sized}
use Rattle.call_refusals.proofs.Accepted.{lent}
use Rattle.call_refusals.proofs.of_live.Goals as goal
use Rattle.call_refusals.proofs.of_live.Goals.{After-bad_live}

pub returns-in_err-of_weigh : goal.returns-in_err-of_weigh
returns-in_err-of_weigh c = let e : c.from_residual.result ≡ Err c.in_err-of_weigh.field-0.0 = search rules in ap refused e ∙ said-first _ _ _ c.in_err-of_weigh.ensures ∙ sym (live-order _ _ _ _)

-- what is said of the live set with the plan held
fits : (c : After-bad_live) → let a = c.args in c.bad_live.result ≡ bad_live (length a.job.now.network.vehicles.now / 2) (length a.job.now.network.stops.now) a.live a.plan.now
fits c = let h = c.hold-held.ensures in rw (h.2, h.1, h.0) at c.bad_live.ensures

pub hold-held-requires : goal.hold-held-requires
hold-held-requires c =
    let e = sym c.in_ok-of_weigh.ensures in
    ((sized Weigh _ refl refl refl e).sizes, lent Weigh _ e refl)

pub returns-then-bad_live : goal.returns-then-bad_live
returns-then-bad_live c =
    passed_first _ _ _ c.in_ok-of_weigh.ensures (taken _ _ 11 _ (fits (goal.at.returns-then-bad_live c).After-bad_live) c.if-bad_live.true)
    ∙ sym (live-order _ _ _ _)

pub bad_given-requires : goal.bad_given-requires
bad_given-requires c =
    (sized Weigh _ refl refl refl (sym c.in_ok-of_weigh.ensures)).sizes.stops

pub returns-then-bad_given : goal.returns-then-bad_given
returns-then-bad_given c =
    passed_first _ _ _ c.in_ok-of_weigh.ensures
    (left _ _ 11 _ _ (fits (goal.at.returns-then-bad_given c).After-bad_live) c.if-bad_live.false (taken _ _ 12 0 c.bad_given.ensures c.if-bad_given.true))
    ∙ sym (live-order _ _ _ _)

pub returns : goal.returns
returns c =
    passed_first _ _ _ c.in_ok-of_weigh.ensures
    (left _ _ 11 _ _ (fits (goal.at.returns c).After-bad_live) c.if-bad_live.false (left _ _ 12 0 0 c.bad_given.ensures c.if-bad_given.false refl))
    ∙ sym (live-order _ _ _ _)
