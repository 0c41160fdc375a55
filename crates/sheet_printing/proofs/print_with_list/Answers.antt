use Rattle.std.proofs.Common.{sym, arith}
use Rattle.model.proofs.Pieces.{line-length}
use Rattle.sheet_printing.proofs.ListLines.{two-pieces}
use Rattle.sheet_printing.proofs.print_with_list.Goals as goal

pub returns : goal.returns
returns g c =
    let p = c.print-at.ensures.prints in
    two-pieces _ _ _ _ _ _ _ _ (sym p.count) (line-length _ (record { fits = λ i. omega (arith, c.shared_slice_known-1.given i) }))
    (omega arith) (omega (arith, c.print-at.ensures.value)) p.same c.put_list.ensures
