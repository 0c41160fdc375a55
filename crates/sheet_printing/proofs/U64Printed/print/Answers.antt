use Rattle.std.proofs.Common.{arith}
use Rattle.sheet_printing.proofs.ListLines.{one_piece, number-line, number-length}
use Rattle.sheet_printing.proofs.U64Printed.print.Goals as goal

pub returns-clause-prints : goal.returns-clause-prints
returns-clause-prints c =
    let r = c.ranges.self in
    one_piece _ _ _ _ (number-length c.args.self (omega (arith, r.fits)))
    (number-line c.args.self _ _ (omega (arith, r.fits)) c.requires.in_bounds c.put_number.ensures)
