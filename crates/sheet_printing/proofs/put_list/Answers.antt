use Rattle.std.proofs.Common.{arith}
use Rattle.model.proofs.Pieces.{Fitting}
use Rattle.sheet_printing.proofs.ListLines.{list-none, list-more, list-line}
use Rattle.sheet_printing.proofs.put_list.Goals as goal

pub loop-i-init : goal.loop-i-init
loop-i-init c =
    let f : Fitting c.args.list.now = record { fits = λ i. omega (arith, c.shared_slice_known-1.given i) } in
    (f, list-none _ c.args.at _ f c.requires)

pub loop-i-preserved : goal.loop-i-preserved
loop-i-preserved c =
    let i = c.loop-i.invariant in
    (i.0, list-more _ c.args.at _ i.0 c.requires _ _ _ (omega arith) i.1 c.put_number.ensures)

pub returns : goal.returns
returns c =
    let i = c.loop-i.invariant in
    list-line _ c.args.at _ i.0 c.requires _ _ (omega arith) i.1
