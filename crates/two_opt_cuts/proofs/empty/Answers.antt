use Rattle.two_opt_cuts.proofs.Laws.{end_none}
use Rattle.two_opt_cuts.proofs.empty.Goals as goal

pub returns : goal.returns
returns c = λ legs. end_none legs c.args.vehicle
