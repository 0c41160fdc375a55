use native.Mathlib.Omega.{arith}
use Rattle.solution.specs.Held.{numbers_of}
use Rattle.file_printing.proofs.Pieces.{stops-none, stops-more}
use Rattle.file_printing.proofs.put_stops.Goals as goal

pub loop-i-init : goal.loop-i-init
loop-i-init c = stops-none _ _

pub loop-i-preserved : goal.loop-i-preserved
loop-i-preserved c =
    let p = c.args.plan.now in
    stops-more p.v p.n (numbers_of p) _ _ _ _ p.sizes (omega arith) (omega arith) c.loop-i.invariant c.put_stop.ensures
