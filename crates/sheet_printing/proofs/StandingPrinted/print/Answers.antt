use Rattle.std.proofs.Common.{arith}
use Rattle.sheet_printing.proofs.ListLines.{one_piece, standing-line, standing-length}
use Rattle.sheet_printing.proofs.StandingPrinted.print.Goals as goal

pub returns-clause-prints : goal.returns-clause-prints
returns-clause-prints c =
    one_piece _ _ _ _ (standing-length _ (omega arith))
    (standing-line c.args.self _ _ _ _ (omega arith) c.to_whole.ensures.0 c.requires.in_bounds c.put_number.ensures c.put_number-2.ensures)
