use Rattle.van_tests.proofs.Laws.{shifted}
use Rattle.van_tests.proofs.bad_vans.Goals as goal

pub returns : goal.returns
returns c = shifted c.args.v c.args.vans c.requires
