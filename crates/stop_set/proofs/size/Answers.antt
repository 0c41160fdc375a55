use mathlib.Core.Path.{refl}
use Rattle.stop_set.proofs.Laws.{size-stops}
use Rattle.stop_set.proofs.size.Goals as goal

pub returns : goal.returns
returns c = record { digits = refl; stops = size-stops c.args.set c.ranges.set.fits }
