use Rattle.std.proofs.Common.{◌≡◌}
use Rattle.solution.specs.Held.{routes}
use Rattle.file_columns.specs.Put.{written}
use Rattle.file_printing.specs.Printing.{printed_stops}
use Rattle.file_printing.proofs.put_stops.Given as goal

abbrev pub invariant-loop-i : goal.invariant-loop-i
invariant-loop-i l = l.out ≡ written l.initial.out 0 (printed_stops (routes l.plan) l.i)
