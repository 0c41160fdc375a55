use mathlib.Core.Path.{ap}
use Prim.Native.Nat.{ℕ, ◌^◌, ◌/◌}
use lib.Bits.{and_mask}
use lib.Dec.{eqb}
use Rattle.stop_set.proofs.contains.Goals as goal

pub returns : goal.returns
returns c = ap (λ (x : ℕ). eqb x 1) (and_mask (c.args.set / 2 ^ c.args.stop) 1)
