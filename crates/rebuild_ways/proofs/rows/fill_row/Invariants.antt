-- The places passed are filled.
use Rattle.rebuild_ways.specs.Fills.{RowFilled}
use Rattle.rebuild_ways.proofs.rows.fill_row.Given as goal

abbrev pub invariant-loop-c : goal.invariant-loop-c
invariant-loop-c l = RowFilled l.legs.table l.from l.ends l.row l.c l.initial.rows l.rows
