use mathlib.Core.Path.{ap, ◌∙◌}
use lib.Bits.{bit_or}
use Rattle.stop_set.proofs.Digits.{or-bit, shifted}
use Rattle.stop_set.proofs.with.Goals as goal

pub returns : goal.returns
returns c = ap (bit_or c.args.set) (shifted c.args.stop c.requires) ∙ or-bit c.args.set c.args.stop
