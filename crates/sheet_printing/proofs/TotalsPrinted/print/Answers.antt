use Rattle.std.proofs.Common.{arith}
use Rattle.file_printing.proofs.Pieces.{totals-length}
use Rattle.sheet_printing.proofs.ListLines.{one_piece}
use Rattle.sheet_printing.proofs.TotalsPrinted.print.Goals as goal

pub returns-clause-prints : goal.returns-clause-prints
returns-clause-prints c = one_piece _ _ _ _ (totals-length _ (omega arith) (omega arith)) c.put_totals.ensures
