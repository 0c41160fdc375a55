-- `settle::settled`: from ten rounds on the comparison, and no before.
use mathlib.Core.Path.{sym, ap, ◌∙◌}
use lib.Ieee.{Float, binary64, mul, le}
use borrow.Author.Tests.{lt-leb}
use Rattle.settle.proofs.Laws.{ratio-literal, early, late}
use Rattle.settle.proofs.settled.Goals as goal

pub returns-then-rounds-ge-LEAST_ROUNDS : goal.returns-then-rounds-ge-LEAST_ROUNDS
returns-then-rounds-ge-LEAST_ROUNDS c =
    let x = c.args in
    ap (λ (z : Float). le x.a.delta (mul binary64 x.a.update z)) ratio-literal
    ∙ sym (late x.rounds x.a c.if-rounds-ge-LEAST_ROUNDS.true)

pub returns-else-rounds-ge-LEAST_ROUNDS : goal.returns-else-rounds-ge-LEAST_ROUNDS
returns-else-rounds-ge-LEAST_ROUNDS c =
    let x = c.args in
    lt-leb 10 x.rounds c.if-rounds-ge-LEAST_ROUNDS.false ∙ sym (early x.rounds x.a c.if-rounds-ge-LEAST_ROUNDS.false)
