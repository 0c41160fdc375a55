use Prim.Native.Nat.{◌+◌, ◌-◌, ◌*◌, ◌/◌, ◌<◌}
use mathlib.Core.Path.{sym, ap, ◌∙◌}
use native.Mathlib.Omega.{arith}
use lib.ListN.{length}
use Rattle.model.specs.Job.{priced}
use Rattle.distance.specs.Sides.{leads}
use Rattle.distance.specs.declared.Side.{Side}
use Rattle.distance.proofs.Laws.{leaves-vehicle, reaches-vehicle}
use Rattle.distance.proofs.Table.{stop-place, vehicle-inside}
use Rattle.distance.proofs.Sides.{of-stop}
use Rattle.distance.proofs.location_at.Goals as goal
use Rattle.distance.proofs.location_at.Goals.{Else-place-lt64}

-- past the stops, the vehicle is there
inside : (c : Else-place-lt64) → 2 * (c.args.place - 64) + 1 < length c.args.network.now.vehicles.now
inside c =
    vehicle-inside (length c.args.network.now.vehicles.now) (length c.args.network.now.stops.now) c.args.place c.if-place-lt64.false c.requires.few c.requires.there

pub bounds-network-place : goal.bounds-network-place
bounds-network-place c =
    stop-place (length c.args.network.now.vehicles.now / 2) (length c.args.network.now.stops.now) c.args.place c.if-place-lt64.true c.requires.there

pub returns-then-place-lt64 : goal.returns-then-place-lt64
returns-then-place-lt64 c p =
    sym (of-stop (priced c.args.network.now p) c.args.side c.args.place c.if-place-lt64.true)

pub overflow_mul-start : goal.overflow_mul-start
overflow_mul-start c = omega (arith, inside c)

pub overflow_add-result : goal.overflow_add-result
overflow_add-result c = omega (arith, inside (goal.at.overflow_add-result c).Else-place-lt64)

pub offset_bounds-network-start : goal.offset_bounds-network-start
offset_bounds-network-start c = omega (arith, inside (goal.at.offset_bounds-network-start c).Else-place-lt64)

pub bounds-network-start : goal.bounds-network-start
bounds-network-start c = omega (arith, inside (goal.at.bounds-network-start c).Else-place-lt64)

pub offset_bounds-network-start-in-End : goal.offset_bounds-network-start-in-End
offset_bounds-network-start-in-End c = omega (arith, inside (goal.at.offset_bounds-network-start-in-End c).Else-place-lt64)

pub bounds-network-start-in-End : goal.bounds-network-start-in-End
bounds-network-start-in-End c = inside (goal.at.bounds-network-start-in-End c).Else-place-lt64

pub returns-in-Start : goal.returns-in-Start
returns-in-Start c p =
    let J = priced c.args.network.now p in
    sym (leaves-vehicle J c.args.place c.if-place-lt64.false) ∙ ap (λ (s : Side). leads J s c.args.place) (sym c.in-Start.is)

pub returns-in-End : goal.returns-in-End
returns-in-End c p =
    let J = priced c.args.network.now p in
    sym (reaches-vehicle J c.args.place c.if-place-lt64.false) ∙ ap (λ (s : Side). leads J s c.args.place) (sym c.in-End.is)
