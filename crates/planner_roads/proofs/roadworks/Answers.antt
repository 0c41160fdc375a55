use Rattle.std.proofs.Common.{rules, ◌≡◌, Err}
use mathlib.Core.Path.{refl, sym}
use native.Mathlib.Omega.{arith}
use Rattle.model.specs.Job.{of_lent}
use Rattle.model.specs.Refusals.{Arguments, lengthening, Roadworks}
use Rattle.call_refusals.proofs.Accepted.{listed, affordable, lengthens}
use Rattle.call_refusals.proofs.Held.{holdable, same}
use Rattle.call_refusals.proofs.Answers.{raises-refused, raises-accepted}
use Rattle.planner_roads.proofs.roadworks.Goals as goal
use Rattle.planner_roads.proofs.roadworks.Goals.{After-of_roadworks}

-- what the call is given
abbrev given : After-of_roadworks → Arguments
given c =
    lengthening (of_lent c.args.job.now) c.args.plan.now c.args.road

pub returns-in_err-of_roadworks : goal.returns-in_err-of_roadworks
returns-in_err-of_roadworks c =
    let r : c.from_residual.result ≡ Err c.in_err-of_roadworks.field-0.0 = search rules in
    raises-refused (given (goal.at.returns-in_err-of_roadworks c).After-of_roadworks) _ _ r c.in_err-of_roadworks.ensures

pub hold-held-requires : goal.hold-held-requires
hold-held-requires c =
    holdable Roadworks (given (goal.at.hold-held-requires c).After-of_roadworks) (sym c.in_ok-of_roadworks.ensures) refl

pub ceiling-requires : goal.ceiling-requires
ceiling-requires c =
    let A = given (goal.at.ceiling-requires c).After-of_roadworks in
    let e = sym c.in_ok-of_roadworks.ensures in
    let h = c.hold-held.ensures in (
      record { limits = (listed Roadworks A e).limits refl; vehicles = h.0; stops = h.1 },
      affordable Roadworks A e refl,
      omega (arith, (lengthens _ _ _ e).short),
    )

pub returns : goal.returns
returns c =
    let A = given (goal.at.returns c).After-of_roadworks in
    raises-accepted A _ (sym c.in_ok-of_roadworks.ensures) (rw (same A c.hold-held.result c.hold-held.ensures) at c.ceiling.ensures)
