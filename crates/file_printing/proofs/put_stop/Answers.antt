use native.Mathlib.Omega.{arith}
use lib.ListN.{length-set}
use Rattle.solution.specs.Held.{numbers_of}
use Rattle.file_printing.proofs.Pieces.{stop-printed}
use Rattle.file_printing.proofs.put_stop.Goals as goal

pub shape_of-out : goal.shape_of-out
shape_of-out c = simp length-set (omega arith)

pub returns : goal.returns
returns c =
    let p = c.args.plan.now in
    stop-printed p.v p.n (numbers_of p) _ _ _ c.args.at c.args.stop p.sizes c.requires.stop_lt_n c.requires.room c.put_number.ensures c.put_vehicle.ensures
