use native.Mathlib.Omega.{arith}
use mathlib.Core.Path.{refl, sym, ◌∙◌}
use Prim.Native.Nat.{◌<◌}
use lib.ListN.{get_or}
use Rattle.model.specs.Plan.{vehicle_of}
use Rattle.solution.specs.Held.{routes}
use Rattle.model.proofs.Locate.{vehicle-lt}
use Rattle.model.proofs.PlanForm.{lent_length}
use Rattle.rebuild_regions.proofs.Places.{vehicle-there, vehicle_nowhere}
use Rattle.rebuild_regions.proofs.Keeping.{kept-none, kept_off, kept-named, kept_more, kept-all}
use Rattle.rebuild_regions.proofs.keep_picks.Goals as goal
use Rattle.rebuild_regions.proofs.keep_picks.Goals.{In-Some, in-Some+then-not-contains, in-Some+else-not-contains, in_default}

pub loop-pick-init : goal.loop-pick-init
loop-pick-init c = kept-none (routes c.args.plan.now) c.args.picks.now c.args.kept.now

-- the vehicle of a pick that is placed
small : (c : In-Some) → c.in-Some.k < 64
small c =
    let a = c.args in
    let P = routes a.plan.now in
    let s = get_or a.picks.now c.loop-pick.pick-index 0 in
    let k = vehicle-there s P c.vehicle_of.result c.vehicle_of.ensures c.in-Some.k c.in-Some.is in
    omega (arith, k.1, vehicle-lt s P k.0, lent_length a.plan.now.v a.plan.now.n _ a.plan.now.lent, a.plan.now.sizes.vehicles)

pub overflow_cast-vehicle : goal.overflow_cast-vehicle
overflow_cast-vehicle c = omega (arith, small (goal.at.overflow_cast-vehicle c).In-Some)

pub contains-requires : goal.contains-requires
contains-requires c = omega (arith, small (goal.at.contains-requires c).In-Some)

pub with-named-requires : goal.with-named-requires
with-named-requires c = omega (arith, small (goal.at.with-named-requires c).In-Some)

pub loop-pick-preserved : goal.loop-pick-preserved
loop-pick-preserved c =
    let a = c.args in
    let P = routes a.plan.now in
    let s = get_or a.picks.now c.loop-pick.pick-index 0 in
    let j = c.match-vehicle_of in
    elim j.branch [
      | in-Some+then-not-contains w ↦
          let k = vehicle-there s P c.vehicle_of.result c.vehicle_of.ensures w.in-Some.k w.in-Some.is in
          kept_more c.loop-pick.invariant (omega arith) w.in-Some.k k.1 j.kept j.named j.p
          c.requires k.0 (sym w.contains.ensures ∙ w.if-not-contains.true) w.kept-is (w.named-is ∙ w.with-named.ensures) w.p-is
      | in-Some+else-not-contains w ↦
          let k = vehicle-there s P c.vehicle_of.result c.vehicle_of.ensures w.in-Some.k w.in-Some.is in
          kept-named c.loop-pick.invariant (omega arith) w.in-Some.k k.1 j.kept j.named j.p
          w.kept-is w.named-is w.p-is k.0 (sym w.contains.ensures ∙ w.if-not-contains.false)
      | in_default w ↦
          kept_off c.loop-pick.invariant (omega arith) (vehicle_of s P) refl j.kept j.named j.p
          w.kept-is w.named-is w.p-is (vehicle_nowhere s P c.vehicle_of.result c.vehicle_of.ensures w.in_default.is)
    ]

pub returns : goal.returns
returns c = let parts = kept-all c.loop-pick.invariant (omega arith) in record { kept_after = parts.0; upper_bound = parts.1 }
