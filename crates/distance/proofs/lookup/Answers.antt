use mathlib.Core.Path.{refl}
use Rattle.model.specs.Job.{entry}
use Rattle.distance.proofs.lookup.Goals as goal

pub returns : goal.returns
unfolding entry
returns c = refl
