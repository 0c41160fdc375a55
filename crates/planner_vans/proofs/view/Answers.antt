use Rattle.std.proofs.Common.{rules, ◌≡◌, Err}
use mathlib.Core.Path.{refl, sym}
use Rattle.model.specs.Refusals.{Arguments, looking, tableless, View}
use Rattle.call_refusals.proofs.Accepted.{seen-long}
use Rattle.call_refusals.proofs.Held.{holdable, same}
use Rattle.call_refusals.proofs.Answers.{views-refused, views-accepted}
use Rattle.planner_vans.proofs.view.Goals as goal
use Rattle.planner_vans.proofs.view.Goals.{After-of_view}

-- what the call is given
abbrev given : After-of_view → Arguments
given c =
    let a = c.args in
    looking (tableless a.vehicles.now a.stops.now) a.plan.now a.vans a.seen.now

pub returns-in_err-of_view : goal.returns-in_err-of_view
returns-in_err-of_view c =
    let r : c.from_residual.result ≡ Err c.in_err-of_view.field-0.0 = search rules in
    views-refused (given (goal.at.returns-in_err-of_view c).After-of_view) _ _ r c.in_err-of_view.ensures

pub hold-held-requires : goal.hold-held-requires
hold-held-requires c = holdable View (given (goal.at.hold-held-requires c).After-of_view) (sym c.in_ok-of_view.ensures) refl

pub view-requires : goal.view-requires
view-requires c =
    let h = c.hold-held.ensures in
    rw (h.0, h.1) (seen-long _ _ _ _ (sym c.in_ok-of_view.ensures))

pub returns : goal.returns
returns c =
    let A = given (goal.at.returns c).After-of_view in
    let h = c.hold-held.ensures in
    let d = c.view.ensures in
    views-accepted A _ _ (sym c.in_ok-of_view.ensures) (rw (same A c.hold-held.result h, h.1) at d.value) (rw (same A c.hold-held.result h, h.1) at d.seen_after)
