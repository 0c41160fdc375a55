-- The stops so far are passed.
use Rattle.rebuild_survey.proofs.Ways.{Going}
use Rattle.rebuild_survey.proofs.along.Given as goal

abbrev pub invariant-loop-stop : goal.invariant-loop-stop
invariant-loop-stop l = Going l.legs.table l.from l.part l.stop-index l.sum l.last
