use Rattle.marked_sums.proofs.Plans.{no-legs}
use Rattle.marked_sums.proofs.count.Goals as goal

pub invariant_of-legs : goal.invariant_of-legs
invariant_of-legs c = record { lengths = no-legs }
