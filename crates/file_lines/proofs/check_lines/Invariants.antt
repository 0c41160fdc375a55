-- The lines up to `next` stand there.
use Rattle.std.proofs.Common.{◌≡◌, ◌+◌, ◌*◌}
use Rattle.file_lines.specs.Standing.{LinesAt}
use Rattle.file_lines.proofs.check_lines.Given as goal

abbrev pub invariant-loop-i : goal.invariant-loop-i
invariant-loop-i l = (l.next ≡ l.at + l._i * (14 * l.count + 1)) × LinesAt l.bytes l.at l._i l.count
