-- The invariant: the cells passed are filled.
use Rattle.distance.specs.Table.{Row}
use Rattle.distance.proofs.fill_row.Given as goal

abbrev pub invariant-loop-i : goal.invariant-loop-i
invariant-loop-i l = Row l.network.distances.now l.network.locations l.from l.ends l.first l.i l.initial.legs.table l.legs.table
