use Rattle.distance.proofs.Table.{legs-blank}
use Rattle.distance.proofs.legs_of.Goals as goal

pub invariant_of-legs : goal.invariant_of-legs
invariant_of-legs c = record { lengths = legs-blank }
