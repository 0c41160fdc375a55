use Rattle.distance.proofs.Table.{legs-blank}
use Rattle.distance.proofs.weighing.unfilled.Goals as goal

pub invariant_of-result : goal.invariant_of-result
invariant_of-result c = record { lengths = legs-blank }
