use Rattle.std.proofs.Common.{◌≡◌, Err}
use mathlib.Core.List.{[]}
use mathlib.Core.Path.{refl, sym, ◌∙◌}
use mathlib.Core.List.{◌∷◌}
use Rattle.model.specs.Job.{of_lent}
use Rattle.model.specs.Refusals.{Arguments, asking, TwoOpt}
use Rattle.model.specs.Calls.{made}
use Rattle.call_refusals.proofs.Order.{two-opt-order}
use Rattle.call_refusals.proofs.Accepted.{stops}
use Rattle.call_refusals.proofs.Held.{weighable, holdable, same, job's, left}
use Rattle.planner.proofs.Saying.{weighs-refused, weighs-accepted}
use Rattle.planner.proofs.Pair.{apart, pair-weighed}
use borrow.Author.Rules.{rules}
use Rattle.planner.proofs.two_opt.Goals as goal
use Rattle.planner.proofs.two_opt.Goals.{After-of_rebuild}

-- what the call is given
abbrev given : After-of_rebuild → Arguments
given c =
    let a = c.args in
    asking (of_lent a.job.now) a.plan.now (a.first ∷ a.second ∷ [])

pub returns-in_err-of_rebuild : goal.returns-in_err-of_rebuild
returns-in_err-of_rebuild c =
    let r : c.from_residual.result ≡ Err c.in_err-of_rebuild.field-0.0 = search rules in
    weighs-refused TwoOpt (given (goal.at.returns-in_err-of_rebuild c).After-of_rebuild) refl _ _ r (c.in_err-of_rebuild.ensures ∙ two-opt-order (given (goal.at.returns-in_err-of_rebuild c).After-of_rebuild) refl)

pub tariff_of-tariff-requires : goal.tariff_of-tariff-requires
tariff_of-tariff-requires c =
    let A = given (goal.at.tariff_of-tariff-requires c).After-of_rebuild in
    weighable TwoOpt A (sym (c.in_ok-of_rebuild.ensures ∙ two-opt-order A refl)) refl

pub hold-held-requires : goal.hold-held-requires
hold-held-requires c =
    let A = given (goal.at.hold-held-requires c).After-of_rebuild in
    holdable TwoOpt A (sym (c.in_ok-of_rebuild.ensures ∙ two-opt-order A refl)) refl

pub pair-requires : goal.pair-requires
pair-requires c =
    let A = given (goal.at.pair-requires c).After-of_rebuild in
    let e = sym (c.in_ok-of_rebuild.ensures ∙ two-opt-order A refl) in
    apart _ _ (stops TwoOpt A e refl).once

pub returns : goal.returns
unfolding made
returns c =
    let A = given (goal.at.returns c).After-of_rebuild in
    let e = sym (c.in_ok-of_rebuild.ensures ∙ two-opt-order A refl) in
    let p = c.hold-held.result in
    let h = c.hold-held.ensures in
    let t = c.tariff_of-tariff in
    let q = c.pair.new.plan in
    let f = job's A p h t.result t.ensures.0 t.ensures.1 in
    let d = c.pair.ensures.plan_after A.job f in
    let w = pair-weighed A.job p q c.args.first c.args.second c.cost.result (apart _ _ (stops TwoOpt A e refl).once) d (c.cost.ensures.job A.job (rw (d.vehicles, d.stops) f)) in
    weighs-accepted TwoOpt A refl _ _ e (rw (same A p h) at w)
    (left A p h _ q _ (c.copy_from_slice.ensures.after ∙ c.form.ensures) (rw (same A p h) at d))
