use native.Mathlib.Omega.{arith}
use Rattle.solution.specs.Held.{numbers_of}
use Rattle.file_printing.proofs.Pieces.{run-printed}
use Rattle.file_printing.proofs.print_run.Goals as goal

pub returns : goal.returns
returns c =
    let p = c.args.plan.now in
    run-printed c.args.t p.v p.n (numbers_of p) _ _ _ p.sizes c.requires.room (omega arith) (omega arith) c.put_stops.ensures c.put_totals.ensures
