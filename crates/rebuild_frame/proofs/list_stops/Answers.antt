use mathlib.Core.Path.{ap}
use native.Mathlib.Omega.{arith}
use lib.ListN.{length}
use Rattle.solution.specs.Held.{routes}
use Rattle.rebuild_survey.proofs.Surveys.{turn as turn-of}
use Rattle.rebuild_frame.proofs.Turns.{all_none, all_listed, turn-listable, turn-listed}
use Rattle.rebuild_frame.proofs.list_stops.Goals as goal

pub loop-q-init : goal.loop-q-init
loop-q-init c =
    let a = c.args in
    all_none (routes a.plan.now) a.regions.now a.stops.now

pub route-route-requires : goal.route-route-requires
route-route-requires c =
    let a = c.args in
    let u = turn-of a.plan.now a.regions.now c.requires.0 c.loop-q.q (omega arith) in
    u.known

pub offset_bounds-route-from : goal.offset_bounds-route-from
offset_bounds-route-from c =
    let a = c.args in
    let u = turn-of a.plan.now a.regions.now c.requires.0 c.loop-q.q (omega arith) in
    omega (arith, u.ordered, u.within, u.drivable.few)

pub slice_bounds-list_gap-count : goal.slice_bounds-list_gap-count
slice_bounds-list_gap-count c =
    let a = c.args in
    (turn-of a.plan.now a.regions.now c.requires.0 c.loop-q.q (omega arith)).ordered

pub slice_bounds-list_gap-start : goal.slice_bounds-list_gap-start
slice_bounds-list_gap-start c =
    let a = c.args in
    (turn-of a.plan.now a.regions.now c.requires.0 c.loop-q.q (omega arith)).ordered

pub slice_bounds-list_gap-end : goal.slice_bounds-list_gap-end
slice_bounds-list_gap-end c =
    let a = c.args in
    omega (arith, (turn-of a.plan.now a.regions.now c.requires.0 c.loop-q.q (omega arith)).within, ap length c.route-route.ensures)

pub list_gap-listed-requires : goal.list_gap-listed-requires
list_gap-listed-requires c =
    let a = c.args in
    let l = c.loop-q in
    turn-listable a.plan.now a.regions.now c.requires.0 c.requires.1 a.stops.now c.requires.2 l.q l.stops l.listed.count
    l.listed.word l.invariant (omega arith) _ c.route-route.ensures

pub loop-q-preserved : goal.loop-q-preserved
loop-q-preserved c =
    let a = c.args in
    let l = c.loop-q in
    turn-listed a.plan.now a.regions.now c.requires.0 c.requires.1 a.stops.now c.requires.2 l.q l.stops l.listed.count
    l.listed.word l.invariant (omega arith) _ c.route-route.ensures
    c.list_gap-listed.new.stops c.list_gap-listed.result.count c.list_gap-listed.result.word c.list_gap-listed.ensures

pub returns : goal.returns
returns c =
    let a = c.args in
    let l = c.loop-q in
    all_listed (routes a.plan.now) a.regions.now a.stops.now l.stops l.listed.count l.listed.word l.q l.invariant (omega arith)
