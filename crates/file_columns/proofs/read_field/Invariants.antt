-- The columns before the last hold the value.
use Rattle.file_columns.proofs.Leads.{Read}
use Rattle.file_columns.proofs.read_field.Given as goal

abbrev pub invariant-loop-byte : goal.invariant-loop-byte
invariant-loop-byte l = Read l.field l.value l.byte-index
