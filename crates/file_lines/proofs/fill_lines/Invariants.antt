-- i numbers are written.
use Rattle.file_lines.proofs.Fills.{FilledTo}
use Rattle.file_lines.proofs.fill_lines.Given as goal

abbrev pub invariant-loop-i : goal.invariant-loop-i
invariant-loop-i l = FilledTo l.bytes l.at l.lines l.count l.initial.list l.list l.i
