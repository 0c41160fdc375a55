use mathlib.Core.Path.{refl}
use Rattle.whole.proofs.Laws.{cast-amount, whole-amount}
use Rattle.whole.proofs.to_whole.Goals as goal

pub float_to_int-result : goal.float_to_int-result
float_to_int-result c = cast-amount c.args.c c.requires

pub returns : goal.returns
returns c = (refl, whole-amount c.args.c c.requires)
