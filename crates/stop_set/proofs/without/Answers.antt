use mathlib.Core.Path.{ap, ◌∙◌}
use Prim.Native.Nat.{ℕ, ◌-◌, ◌*◌, ◌%◌, ◌^◌}
use lib.Bits.{bit_and, and_le_l}
use Rattle.stop_set.proofs.Digits.{and-bit, shifted}
use Rattle.stop_set.proofs.without.Goals as goal

pub overflow_sub-result : goal.overflow_sub-result
overflow_sub-result c = and_le_l c.args.set (1 * 2 ^ c.args.stop % 2 ^ 64)

pub returns : goal.returns
returns c =
    ap (λ (x : ℕ). c.args.set - bit_and c.args.set x) (shifted c.args.stop c.requires)
    ∙ ap (λ (x : ℕ). c.args.set - x) (and-bit c.args.set c.args.stop)
