use Rattle.std.proofs.Common.{◌≡◌, Err}
use mathlib.Core.List.{[]}
use mathlib.Core.Path.{refl, sym, ap, ◌∙◌}
use native.Mathlib.Omega.{arith}
use lib.ListN.{length}
use Rattle.model.specs.Job.{of_lent}
use Rattle.model.specs.Refusals.{Arguments, asking, Pruned}
use Rattle.model.specs.Calls.{made}
use Rattle.call_refusals.proofs.Order.{pruned-order}
use Rattle.call_refusals.proofs.Accepted.{listed}
use Rattle.call_refusals.proofs.Held.{weighable}
use Rattle.planner.proofs.Saying.{weighs-refused, weighs-accepted}
use borrow.Author.Rules.{rules}
use Rattle.planner.proofs.pruned.Goals as goal
use Rattle.planner.proofs.pruned.Goals.{After-of_exhaustive}

-- what the call is given
abbrev given : After-of_exhaustive → Arguments
given c =
    let a = c.args in
    asking (of_lent a.job.now) a.plan.now []

pub returns-in_err-of_exhaustive : goal.returns-in_err-of_exhaustive
returns-in_err-of_exhaustive c =
    let r : c.from_residual.result ≡ Err c.in_err-of_exhaustive.field-0.0 = search rules in
    weighs-refused Pruned (given (goal.at.returns-in_err-of_exhaustive c).After-of_exhaustive) refl _ _ r (c.in_err-of_exhaustive.ensures ∙ pruned-order (given (goal.at.returns-in_err-of_exhaustive c).After-of_exhaustive) refl)

pub tariff_of-tariff-requires : goal.tariff_of-tariff-requires
tariff_of-tariff-requires c =
    let A = given (goal.at.tariff_of-tariff-requires c).After-of_exhaustive in
    let e = sym (c.in_ok-of_exhaustive.ensures ∙ pruned-order A refl) in
    weighable Pruned A e refl

pub pruned-cost-requires : goal.pruned-cost-requires
pruned-cost-requires c =
    let A = given (goal.at.pruned-cost-requires c).After-of_exhaustive in
    (listed Pruned A (sym (c.in_ok-of_exhaustive.ensures ∙ pruned-order A refl))).sizes

pub copy_from_slice-requires : goal.copy_from_slice-requires
copy_from_slice-requires c =
    let A = given (goal.at.copy_from_slice-requires c).After-of_exhaustive in
    let s = listed Pruned A (sym (c.in_ok-of_exhaustive.ensures ∙ pruned-order A refl)) in
    omega (arith, ap length c.form.ensures, c.pruned-cost.result.0.lent.long, c.pruned-cost.ensures.sizes, s.long)

pub returns : goal.returns
unfolding made
returns c =
    let A = given (goal.at.returns c).After-of_exhaustive in
    let e = sym (c.in_ok-of_exhaustive.ensures ∙ pruned-order A refl) in
    let t = c.tariff_of-tariff.ensures in
    let d = c.pruned-cost.ensures.chosen A.job (rw t.1 (t.0.fits A.job.prices)) in
    weighs-accepted Pruned A refl _ _ e d.1 (c.copy_from_slice.ensures.after ∙ c.form.ensures ∙ d.0.form)
