-- The fields up to `next` stand there.
use Rattle.std.proofs.Common.{◌≡◌, ◌+◌, ◌*◌}
use Rattle.file_lines.specs.Standing.{FieldsAt}
use Rattle.file_lines.proofs.check_fields.Given as goal

abbrev pub invariant-loop-i : goal.invariant-loop-i
invariant-loop-i l = (l.next ≡ l.at + 14 * l._i) × FieldsAt l.bytes l.at l._i
