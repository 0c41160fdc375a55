use Rattle.whole.proofs.Laws.{in-float}
use Rattle.whole.proofs.of_u64.Goals as goal

pub int_to_float-result : goal.int_to_float-result
int_to_float-result c = in-float c.args.n c.requires
