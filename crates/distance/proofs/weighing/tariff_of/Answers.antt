use Rattle.distance.proofs.Table.{legs-blank}
use Rattle.distance.proofs.weighing.tariff_of.Goals as goal

pub invariant_of-tariff : goal.invariant_of-tariff
invariant_of-tariff c = record { lengths = legs-blank }
