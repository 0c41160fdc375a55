-- `settle::none` returns two literals, which are 0.
use mathlib.Core.Path.{refl}
use lib.Ieee.{of_bits}
use Rattle.settle.proofs.none.Goals as goal

pub returns : goal.returns
unfolding of_bits
returns c = refl
