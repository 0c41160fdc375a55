use Prim.Native.Nat.{ℕ, ◌+◌, ◌-◌, ◌<◌}
use native.Mathlib.Omega.{arith}
use mathlib.Core.Path.{refl, sym}
use mathlib.Core.List.{List}
use lib.ListN.{length, get_or}
use lib.Seq.{length-take-le}
use Rattle.model.proofs.Counts.{below_at}
use Rattle.distance.specs.Ways.{Drivable}
use Rattle.model.proofs.Lists.{part_end}
use Rattle.distance.proofs.Laws.{drivable-take, drivable-drop}
use Rattle.rebuild_survey.proofs.Ways.{measured-end, measured-on}
use Rattle.rebuild_survey.proofs.measure.Goals as goal

-- a stop that comes after the gap
first_small : (r : List ℕ) (i : ℕ) → Drivable r → i < length r → get_or r i 0 < 64
first_small r i d h = below_at 64 r i d.stops h

pub slice_bounds-along-end : goal.slice_bounds-along-end
slice_bounds-along-end c = sym (length-take-le c.args.from c.args.route.now (omega arith))

pub along-head-requires : goal.along-head-requires
along-head-requires c = (omega arith, drivable-take c.args.from c.args.route.now c.requires.drivable.1)

pub returns-then-to-route : goal.returns-then-to-route
returns-then-to-route c =
    measured-end c.args.legs.now.table c.args.vehicle c.args.route.now c.args.from c.args.to c.along-head.result c.along-head.ensures
    c.requires.drivable.0 c.if-to-route.true _ refl refl refl refl

pub overflow_cast-first : goal.overflow_cast-first
overflow_cast-first c = omega arith

pub along-rest-requires : goal.along-rest-requires
along-rest-requires c = (
  omega (arith, first_small c.args.route.now c.args.to c.requires.drivable.1 (omega (arith, c.if-to-route.false))),
  drivable-take (length c.args.route.now - (c.args.to + 1)) _ (drivable-drop (c.args.to + 1) c.args.route.now c.requires.drivable.1),
)

pub overflow_add-result : goal.overflow_add-result
overflow_add-result c = omega (arith, c.along-rest.ensures.short, c.leg.ensures.1)

pub returns : goal.returns
returns c =
    let h : c.args.to < length c.args.route.now = omega (arith, c.if-to-route.false) in
    measured-on c.args.legs.now.table c.args.vehicle c.args.route.now c.args.from c.args.to c.along-head.result c.along-head.ensures
    c.requires.drivable.0 h (first_small c.args.route.now c.args.to c.requires.drivable.1 h) _ c.along-rest.result c.leg.result
    (part_end (c.args.to + 1) c.args.route.now) c.along-rest.ensures c.leg.ensures.0 _ refl refl refl refl
