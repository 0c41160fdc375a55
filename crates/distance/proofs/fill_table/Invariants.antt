-- The invariant: the rows passed are filled.
use Rattle.distance.proofs.Table.{Rows}
use Rattle.distance.proofs.fill_table.Given as goal

abbrev pub invariant-loop-i : goal.invariant-loop-i
invariant-loop-i l = Rows l.network.vehicles.now l.network.stops.now l.network.locations l.network.distances.now l.i l.legs.table
