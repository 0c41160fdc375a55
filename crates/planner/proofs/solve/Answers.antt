use Rattle.std.proofs.Common.{◌≡◌, Err}
use mathlib.Core.Path.{refl, sym, ap, ◌∙◌}
use native.Mathlib.Omega.{arith}
use lib.ListN.{length}
use Rattle.model.specs.Job.{of_lent}
use Rattle.model.specs.Refusals.{Arguments, Solve, running}
use Rattle.model.specs.Calls.{made}
use Rattle.call_refusals.proofs.Accepted.{listed, drawable, smooth}
use Rattle.call_refusals.proofs.Held.{weighable}
use Rattle.planner.proofs.Saying.{solves-refused, solves-accepted}
use borrow.Author.Rules.{rules}
use Rattle.planner.proofs.solve.Goals as goal
use Rattle.planner.proofs.solve.Goals.{After-of_solve}

-- what the call is given
abbrev given : After-of_solve → Arguments
given c =
    let a = c.args in
    running (of_lent a.job.now) a.settings.now.smoothing a.settings.now.limit a.settings.now.draws.now a.plan.now

pub returns-in_err-of_solve : goal.returns-in_err-of_solve
returns-in_err-of_solve c =
    let r : c.from_residual.result ≡ Err c.in_err-of_solve.field-0.0 = search rules in
    solves-refused (given (goal.at.returns-in_err-of_solve c).After-of_solve) _ _ r c.in_err-of_solve.ensures

pub unfilled-tariff-requires : goal.unfilled-tariff-requires
unfilled-tariff-requires c =
    let A = given (goal.at.unfilled-tariff-requires c).After-of_solve in
    let e = sym c.in_ok-of_solve.ensures in
    (weighable Solve A e refl).1

pub fill_table-requires : goal.fill_table-requires
fill_table-requires c =
    let A = given (goal.at.fill_table-requires c).After-of_solve in
    let e = sym c.in_ok-of_solve.ensures in
    (weighable Solve A e refl).0

pub run-requires : goal.run-requires
run-requires c =
    let A = given (goal.at.run-requires c).After-of_solve in
    let e = sym c.in_ok-of_solve.ensures in
    record { sizes = (listed Solve A e).sizes; some = (drawable Solve A e refl).0; smooth = (smooth Solve A e refl).0 }

pub copy_from_slice-requires : goal.copy_from_slice-requires
copy_from_slice-requires c =
    let s = listed Solve (given (goal.at.copy_from_slice-requires c).After-of_solve) (sym c.in_ok-of_solve.ensures) in
    omega (arith, ap length c.form.ensures, c.run.result.0.lent.long, c.run.ensures.sizes, s.long)

pub returns : goal.returns
unfolding made
returns c =
    let A = given (goal.at.returns c).After-of_solve in
    let e = sym c.in_ok-of_solve.ensures in
    let d = c.run.ensures.ran A.job (rw c.unfilled-tariff.ensures.1 (c.fill_table.ensures.fits A.job.prices)) in
    solves-accepted A _ _ e d.0 (c.copy_from_slice.ensures.after ∙ c.form.ensures ∙ d.1.form)
