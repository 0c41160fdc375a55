use Rattle.sheet_printing.proofs.ListLines.{one_piece, change-line, change-length}
use Rattle.sheet_printing.proofs.I64Printed.print.Goals as goal

pub returns-clause-prints : goal.returns-clause-prints
returns-clause-prints c =
    let z = c.args.self in
    let r = c.ranges.self in
    one_piece _ _ _ _ (change-length z r) (change-line z _ _ r c.requires.in_bounds c.put_signed.ensures)
