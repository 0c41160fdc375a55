use Rattle.stop_set.proofs.Laws.{stops_first}
use Rattle.stop_set.proofs.lowest.Goals as goal

pub returns : goal.returns
returns c = stops_first c.args.set c.ranges.set.fits c.requires
