use Rattle.std.proofs.Common.{arith}
use Rattle.sheet_printing.proofs.ListLines.{one_piece, walk-line, walk-length}
use Rattle.sheet_printing.proofs.WalkPrinted.print.Goals as goal

pub returns-clause-prints : goal.returns-clause-prints
returns-clause-prints c =
    one_piece _ _ _ _ (walk-length _ (omega arith) (omega arith))
    (walk-line c.args.self _ _ _ _ _ (omega arith) (omega arith) c.to_whole.ensures.0 c.requires.in_bounds
    c.put_number.ensures c.put_number-2.ensures c.put_number-3.ensures)
