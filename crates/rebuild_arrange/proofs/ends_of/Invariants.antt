-- The ends before place i are written.
use Rattle.rebuild_arrange.proofs.Ends.{Ending}
use Rattle.rebuild_arrange.proofs.ends_of.Given as goal

abbrev pub invariant-loop-i : goal.invariant-loop-i
invariant-loop-i l = Ending l.frame l.places l.i l.ends
