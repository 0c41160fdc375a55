-- The rows passed are filled.
use Rattle.rebuild_ways.specs.Fills.{RowsFilled}
use Rattle.rebuild_ways.proofs.rows.fill_rows.Given as goal

abbrev pub invariant-loop-r : goal.invariant-loop-r
invariant-loop-r l = RowsFilled l.legs.table l.starts l.ends l.r l.initial.rows l.rows
