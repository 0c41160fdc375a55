-- `view::see_lengths`: the lengths of the routes that are passed are written.
use Rattle.solution.specs.Held.{routes}
use Rattle.view.proofs.Seeing.{Lengths}
use Rattle.view.proofs.see_lengths.Given as goal

abbrev pub invariant-loop-k : goal.invariant-loop-k
invariant-loop-k l = Lengths l.plan.v (routes l.plan) l.vans l.k l.lengths
