use Rattle.roads.proofs.Plans.{Tallied}
use Rattle.roads.proofs.plan_tally.Given as goal

abbrev pub invariant-loop-k : goal.invariant-loop-k
invariant-loop-k l = Tallied l.network l.plan l.road l.uses l.metres l.k
