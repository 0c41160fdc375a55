use native.Mathlib.Omega.{arith}
use Rattle.two_opt_candidates.specs.Weighed.{found}
use Rattle.two_opt_candidates.proofs.Weighing.{joins-own, exchange, ten-tried}
use Rattle.two_opt_candidates.proofs.least_of_turns.Goals as goal

pub weighed-kept-requires : goal.weighed-kept-requires
weighed-kept-requires c = (joins-own (c.requires.0 0 0), c.requires.2)

pub exchanged-ends-requires : goal.exchanged-ends-requires
exchanged-ends-requires c = (c.requires.0 0 0, omega (arith, c.requires.1), c.weighed-kept.ensures.0)

pub weighed-whole-requires : goal.weighed-whole-requires
weighed-whole-requires c = (joins-own (exchange (c.requires.0 0 0)), c.exchanged-ends.ensures.0)

pub exchanged-one-requires : goal.exchanged-one-requires
exchanged-one-requires c = (c.requires.0 0 1, omega (arith, c.requires.1), c.weighed-whole.ensures.0)

pub exchanged-two-requires : goal.exchanged-two-requires
exchanged-two-requires c = (c.requires.0 1 0, omega (arith, c.requires.1), c.exchanged-one.ensures.0)

pub overflow_add-code-4 : goal.overflow_add-code-4
overflow_add-code-4 c = omega (arith, c.requires.1)

pub exchanged-requires : goal.exchanged-requires
exchanged-requires c = (c.requires.0 1 1, omega (arith, c.requires.1), c.exchanged-two.ensures.0)

pub returns : goal.returns
returns c =
    let a = c.args in (
      c.exchanged.ensures.0,
      ten-tried a.tariff.now.legs.table a.tariff.now.prices a.x a.y a.code (found a.best) c.weighed-kept.ensures.1 c.exchanged-ends.ensures.1 c.weighed-whole.ensures.1
          c.exchanged-one.ensures.1 c.exchanged-two.ensures.1 c.exchanged.ensures.1,
    )
