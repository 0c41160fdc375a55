use Rattle.roads.proofs.Plans.{ceiling-tallied}
use Rattle.roads.proofs.ceiling.Goals as goal

pub returns : goal.returns
returns c = ceiling-tallied _ _ _ _ c.plan_tally-tally.ensures _ _ c.ceiling_from.ensures
