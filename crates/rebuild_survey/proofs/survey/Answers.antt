use mathlib.Core.Path.{sym, ap, subst}
use native.Mathlib.Omega.{arith}
use lib.ListN.{length}
use Rattle.distance.specs.Ways.{Drivable}
use Rattle.rebuild_survey.proofs.Surveys.{surveying-none, surveying-more, surveyed, turn as turn-of}
use Rattle.rebuild_survey.proofs.survey.Goals as goal

pub loop-q-init : goal.loop-q-init
loop-q-init c = surveying-none c.args.legs.now c.args.plan.now c.args.regions.now c.args.gaps.now c.requires.1

pub route-route-requires : goal.route-route-requires
route-route-requires c =
    let u = turn-of c.args.plan.now c.args.regions.now c.requires.0 c.loop-q.q (omega arith) in
    u.known

pub measure-requires : goal.measure-requires
measure-requires c =
    let u = turn-of c.args.plan.now c.args.regions.now c.requires.0 c.loop-q.q (omega arith) in
    let r = c.route-route in record { drivable = (omega (arith, u.known, u.narrow), subst Drivable (sym r.ensures) u.drivable); from_le_to = (u.ordered, omega (arith, u.within, ap length r.ensures)) }

pub bounds-gaps-q : goal.bounds-gaps-q
bounds-gaps-q c = omega (arith, c.loop-q.invariant.long, c.requires.0.few)

pub loop-q-preserved : goal.loop-q-preserved
loop-q-preserved c =
    let a = c.args in
    let l = c.loop-q in
    surveying-more a.legs.now a.plan.now a.regions.now a.gaps.now l.q l.gaps l.invariant (omega arith) (omega (arith, c.requires.0.few)) _ c.route-route.ensures _ c.measure.ensures

pub returns : goal.returns
returns c =
    let l = c.loop-q in
    let parts = surveyed c.args.legs.now c.args.plan.now c.args.regions.now c.args.gaps.now l.q l.gaps l.invariant (omega arith) in record { surveyed = parts.0; unsurveyed = parts.1 }
