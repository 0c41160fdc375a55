use Rattle.whole.proofs.Laws.{lt-amount}
use Rattle.whole.proofs.cheaper.Goals as goal

pub returns : goal.returns
returns c = lt-amount c.args.a c.args.b c.requires.0 c.requires.1
