use Rattle.std.proofs.Common.{refl, sym}
use Rattle.file_columns.proofs.Puts.{written-nil}
use Rattle.sheet_printing.proofs.UnitPrinted.print.Goals as goal

pub returns-clause-prints : goal.returns-clause-prints
returns-clause-prints c = record { count = refl; same = sym (written-nil _ 0) }
