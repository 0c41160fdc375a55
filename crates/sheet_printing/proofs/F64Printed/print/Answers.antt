use Rattle.sheet_printing.proofs.ListLines.{one_piece, cost-line, cost-length}
use Rattle.sheet_printing.proofs.F64Printed.print.Goals as goal

pub returns-clause-prints : goal.returns-clause-prints
returns-clause-prints c =
    one_piece _ _ _ _ (cost-length _) (cost-line _ _ _ _ c.to_whole.ensures.0 c.requires.in_bounds c.put_number.ensures)
