-- The n lowest digits are 1 in 2 ^ n - 1.
use mathlib.Core.Path.{ap, sym, subst, ◌∙◌}
use Prim.Native.Nat.{ℕ, ◌-◌, ◌≤◌}
use native.Mathlib.Omega.{arith}
use lib.Pow.{pow_pos}
use Rattle.model.specs.Lists.{up_from}
use Rattle.model.specs.StopSet.{stops_of}
use Rattle.stop_set.proofs.Digits.{shifted}
use Rattle.stop_set.proofs.Laws.{stops-below}
use Rattle.stop_set.proofs.below.Goals as goal

pub returns-then-n-eq64 : goal.returns-then-n-eq64
returns-then-n-eq64 c = stops-below 64 (omega arith) ∙ ap (up_from 0) (sym c.if-n-eq64.true)

-- n is below 64 where it is no more than 64 and not 64
pub overflow_sub-result : goal.overflow_sub-result
overflow_sub-result c = subst (λ (x : ℕ). 1 ≤ x) (sym (shifted c.args.n (omega arith))) (pow_pos c.args.n)

pub returns : goal.returns
returns c =
    ap (λ (x : ℕ). stops_of (x - 1)) (shifted c.args.n (omega arith)) ∙ stops-below c.args.n (omega arith)
