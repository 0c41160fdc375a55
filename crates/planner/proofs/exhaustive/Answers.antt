use Rattle.std.proofs.Common.{◌≡◌, Err}
use mathlib.Core.List.{[]}
use mathlib.Core.Path.{refl, sym, ap, ◌∙◌}
use native.Mathlib.Omega.{arith}
use lib.ListN.{length}
use Rattle.model.specs.Job.{of_lent}
use Rattle.model.specs.Refusals.{Arguments, asking, Exhaustive}
use Rattle.model.specs.Calls.{made}
use Rattle.call_refusals.proofs.Accepted.{listed, small}
use Rattle.call_refusals.proofs.Held.{weighable}
use Rattle.planner.proofs.Saying.{weighs-refused, weighs-accepted}
use borrow.Author.Rules.{rules}
use Rattle.planner.proofs.exhaustive.Goals as goal
use Rattle.planner.proofs.exhaustive.Goals.{After-of_exhaustive}

-- what the call is given
abbrev given : After-of_exhaustive → Arguments
given c =
    let a = c.args in
    asking (of_lent a.job.now) a.plan.now []

pub returns-in_err-of_exhaustive : goal.returns-in_err-of_exhaustive
returns-in_err-of_exhaustive c =
    let r : c.from_residual.result ≡ Err c.in_err-of_exhaustive.field-0.0 = search rules in
    weighs-refused Exhaustive (given (goal.at.returns-in_err-of_exhaustive c).After-of_exhaustive) refl _ _ r c.in_err-of_exhaustive.ensures

-- what an accepted call is given can be solved
pub tariff_of-tariff-requires : goal.tariff_of-tariff-requires
tariff_of-tariff-requires c =
    let A = given (goal.at.tariff_of-tariff-requires c).After-of_exhaustive in
    let e = sym c.in_ok-of_exhaustive.ensures in
    weighable Exhaustive A e refl

pub exhaustive-cost-requires : goal.exhaustive-cost-requires
exhaustive-cost-requires c =
    let A = given (goal.at.exhaustive-cost-requires c).After-of_exhaustive in
    let s = small Exhaustive A (sym c.in_ok-of_exhaustive.ensures) refl in
    (s.1, s.0)

pub copy_from_slice-requires : goal.copy_from_slice-requires
copy_from_slice-requires c =
    let A = given (goal.at.copy_from_slice-requires c).After-of_exhaustive in
    let x = c.exhaustive-cost in
    omega (arith, (listed Exhaustive A (sym c.in_ok-of_exhaustive.ensures)).long, x.result.0.lent.long, x.ensures.sizes, ap length c.form.ensures)

pub returns : goal.returns
unfolding made
returns c =
    let A = given (goal.at.returns c).After-of_exhaustive in
    let e = sym c.in_ok-of_exhaustive.ensures in
    let t = c.tariff_of-tariff.ensures in
    let d = c.exhaustive-cost.ensures.chosen A.job (rw t.1 (t.0.fits A.job.prices)) in
    weighs-accepted Exhaustive A refl _ _ e d.1 (c.copy_from_slice.ensures.after ∙ c.form.ensures ∙ d.0.form)
