use mathlib.Core.Path.{refl}
use native.Mathlib.Omega.{arith}
use Rattle.distance.proofs.Table.{rows_more, legs-of}
use Rattle.distance.specs.Table.{TableOf}
use Rattle.distance.proofs.fill_table.Goals as goal
use Rattle.distance.proofs.fill_table.Goals.{After-loop-i}

pub place_ends-requires : goal.place_ends-requires
place_ends-requires c = (c.requires.vehicles, c.requires.stops, refl)

pub loop-i-init : goal.loop-i-init
loop-i-init c = record { few = omega arith; long = c.args.legs.now.lengths.long; cells = λ p k h. absurd (omega arith) }

pub location_of-from-requires : goal.location_of-from-requires
location_of-from-requires c = (c.requires.vehicles, c.requires.stops)

pub fill_row-requires : goal.fill_row-requires
fill_row-requires c = (c.requires, omega arith)

pub loop-i-preserved : goal.loop-i-preserved
loop-i-preserved c =
    let N = c.args.network.now in
    rows_more N.vehicles.now N.stops.now N.locations N.distances.now c.requires c.loop-i.i c.location_of-from.result
    c.place_ends.new.ends c.loop-i.legs.table c.fill_row.new.legs.table c.loop-i.invariant c.loop-i-test.true
    c.location_of-from.ensures c.place_ends.ensures c.fill_row.ensures

-- the table that is left
made : (c : After-loop-i) → TableOf c.args.network.now c.loop-i.legs.table
made c =
    let N = c.args.network.now in
    legs-of N.vehicles.now N.stops.now N.locations N.distances.now c.requires c.loop-i.legs.table c.loop-i.invariant.long
    (λ p i h. c.loop-i.invariant.cells p i (omega arith))

pub returns : goal.returns
returns c = made (goal.at.returns c).After-loop-i
