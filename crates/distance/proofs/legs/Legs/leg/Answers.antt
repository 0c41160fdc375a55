use mathlib.Core.Path.{refl}
use Rattle.model.specs.Job.{entry}
use Rattle.distance.proofs.Laws.{leg-small}
use Rattle.distance.proofs.legs.Legs.leg.Goals as goal

pub returns : goal.returns
unfolding entry
returns c =
    (refl, leg-small c.args.self.now.table c.args.from c.args.to c.args.self.now.lengths)
