use Rattle.std.proofs.Common.{rules, ◌≡◌, Err}
use Rattle.model.specs.Numbers.{refused}
use mathlib.Core.Path.{refl, sym, ◌∙◌, ap}
use Prim.Native.Nat.{◌/◌}
use lib.ListN.{length}
use Rattle.model.specs.Plan.{decode}
use Rattle.model.specs.Vans.{bad_move}
use Rattle.model.specs.Refusals.{Rebuild}
use Rattle.solution.proofs.Holding.{read-routes}
use Rattle.call_tests.proofs.Laws.{said}
use Rattle.call_refusals.proofs.Order.{move-order, said-first, passed_first, taken, left}
use Rattle.call_refusals.proofs.Passed.{sized}
use Rattle.call_refusals.proofs.Accepted.{lent}
use Rattle.call_refusals.proofs.of_move_stop.Goals as goal
use Rattle.call_refusals.proofs.of_move_stop.Goals.{After-bad_move}

pub returns-in_err-of_rebuild : goal.returns-in_err-of_rebuild
returns-in_err-of_rebuild c = let e : c.from_residual.result ≡ Err c.in_err-of_rebuild.field-0.0 = search rules in ap refused e ∙ said-first _ _ _ c.in_err-of_rebuild.ensures ∙ sym (move-order _ _ _ _)

pub bad_vans-requires : goal.bad_vans-requires
bad_vans-requires c = (sized Rebuild _ refl refl refl (sym c.in_ok-of_rebuild.ensures)).sizes.vehicles

pub returns-then-bad_vans : goal.returns-then-bad_vans
returns-then-bad_vans c =
    passed_first _ _ _ c.in_ok-of_rebuild.ensures (taken _ _ 15 _ c.bad_vans.ensures c.if-bad_vans.true)
    ∙ sym (move-order _ _ _ _)

pub hold-held-requires : goal.hold-held-requires
hold-held-requires c =
    let e = sym c.in_ok-of_rebuild.ensures in
    ((sized Rebuild _ refl refl refl e).sizes, lent Rebuild _ e refl)

pub bad_move-requires : goal.bad_move-requires
bad_move-requires c = rw c.hold-held.ensures.0 (said c.bad_vans.ensures c.if-bad_vans.false)

-- what is said of the move with the plan held
fits : (c : After-bad_move) → let a = c.args in c.bad_move.result ≡ bad_move a.vans a.m (decode (length a.job.now.network.vehicles.now / 2) a.plan.now)
fits c = let h = c.hold-held.ensures in rw (read-routes _ _ c.hold-held.result h.0 h.2) at c.bad_move.ensures

pub returns-then-bad_move : goal.returns-then-bad_move
returns-then-bad_move c =
    passed_first _ _ _ c.in_ok-of_rebuild.ensures
    (left _ _ 15 _ _ c.bad_vans.ensures c.if-bad_vans.false (taken _ _ 15 0 (fits (goal.at.returns-then-bad_move c).After-bad_move) c.if-bad_move.true))
    ∙ sym (move-order _ _ _ _)

pub returns-else-bad_move : goal.returns-else-bad_move
returns-else-bad_move c =
    passed_first _ _ _ c.in_ok-of_rebuild.ensures
    (left _ _ 15 _ _ c.bad_vans.ensures c.if-bad_vans.false (left _ _ 15 0 0 (fits (goal.at.returns-else-bad_move c).After-bad_move) c.if-bad_move.false refl))
    ∙ sym (move-order _ _ _ _)
