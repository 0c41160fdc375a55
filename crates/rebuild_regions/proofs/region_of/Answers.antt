use native.Mathlib.Omega.{arith}
use mathlib.Core.Path.{ap, ◌∙◌}
use lib.ListN.{length}
use Rattle.model.specs.Region.{region_to}
use Rattle.solution.specs.Held.{routes}
use Rattle.solution.specs.declared.Place.{Place}
use Rattle.rebuild_regions.proofs.Places.{There, found-there, found_nowhere, Within, there-within, region-there}
use Rattle.rebuild_regions.proofs.region_of.Goals as goal
use Rattle.rebuild_regions.proofs.region_of.Goals.{In_ok-place}

abbrev place : In_ok-place → Place
place c = c.in_ok-place.place

there : (c : In_ok-place) → There c.args.pick (routes c.args.plan.now) (place c)
there c =
    let f = c.find in
    found-there c.args.pick (routes c.args.plan.now) f.result f.ensures (place c) c.in_ok-place.was

within : (c : In_ok-place) → Within c.args.plan.now (place c)
within c = there-within c.args.plan.now c.args.pick (place c) (there c)

pub returns-in_err-place : goal.returns-in_err-place
returns-in_err-place c =
    let f = c.find in
    let off = found_nowhere c.args.pick (routes c.args.plan.now) f.result f.ensures c.in_err-place.was in
    c.from_residual.ensures ∙ rw off

pub route-requires : goal.route-requires
route-requires c = (within (goal.at.route-requires c).In_ok-place).vehicle

pub region_to-requires : goal.region_to-requires
region_to-requires c = omega (arith, within (goal.at.region_to-requires c).In_ok-place, c.args.plan.now.sizes.stops, c.requires)

pub returns : goal.returns
returns c =
    let a = c.args in
    region-there (routes a.plan.now) a.pick (place (goal.at.returns c).In_ok-place) (there (goal.at.returns c).In_ok-place) a.size _ _ c.region_from.ensures (c.region_to.ensures ∙ ap (λ r. region_to a.size (place (goal.at.returns c).In_ok-place).position (length r)) c.route.ensures)
