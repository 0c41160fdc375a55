use mathlib.Core.Path.{refl, sym}
use native.Mathlib.Omega.{arith}
use lib.Seq.{length-take-le}
use Rattle.joining.proofs.Write.{emptied}
use Rattle.joining.proofs.empty.Goals as goal

pub slice_bounds-fill-end-2 : goal.slice_bounds-fill-end-2
slice_bounds-fill-end-2 c = let a = c.args in sym (length-take-le a.v a.plan.now (omega arith))

pub returns : goal.returns
returns c =
    emptied c.args.v c.args.n c.args.plan.now _ c.fill.new.to c.fill-2.new.to c.requires c.fill.ensures refl
    c.fill-2.ensures
