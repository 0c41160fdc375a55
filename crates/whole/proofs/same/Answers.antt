use Rattle.whole.proofs.Laws.{eq-amount}
use Rattle.whole.proofs.same.Goals as goal

pub returns : goal.returns
returns c = eq-amount c.args.a c.args.b c.requires.0 c.requires.1
