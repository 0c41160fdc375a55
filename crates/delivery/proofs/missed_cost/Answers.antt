-- The product is exact.
use native.Mathlib.Omega.{arith}
use Rattle.whole.proofs.Laws.{in-float}
use Rattle.delivery.proofs.Laws.{missed-exact}
use Rattle.delivery.proofs.missed_cost.Goals as goal

pub int_to_float-result-2 : goal.int_to_float-result-2
int_to_float-result-2 c =
    in-float c.args.prices.missed (omega (arith, c.requires.1.missed))

pub returns : goal.returns
returns c =
    missed-exact c.args.prices c.requires.1 c.args.count c.requires.0
