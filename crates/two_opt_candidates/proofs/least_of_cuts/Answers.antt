use native.Mathlib.Omega.{arith}
use Rattle.two_opt_candidates.proofs.Weighing.{weighs-amount, joins-own, first-turned, second-turned, all-tried}
use Rattle.two_opt_candidates.proofs.least_of_cuts.Goals as goal

pub pair_price-price-requires : goal.pair_price-price-requires
pair_price-price-requires c = joins-own (c.requires 0 0)

pub least_of_turns-second-requires : goal.least_of_turns-second-requires
least_of_turns-second-requires c =
    (second-turned c.requires c.reversed-q.ensures, omega arith, c.least_of_turns-none.ensures.0)

pub least_of_turns-first-requires : goal.least_of_turns-first-requires
least_of_turns-first-requires c =
    (first-turned c.requires c.reversed-p.ensures, omega arith, c.least_of_turns-second.ensures.0)

pub least_of_turns-requires : goal.least_of_turns-requires
least_of_turns-requires c =
    (first-turned (second-turned c.requires c.reversed-q.ensures) c.reversed-p.ensures, omega arith, c.least_of_turns-first.ensures.0)

pub returns : goal.returns
returns c =
    let a = c.args in
    all-tried a.tariff.now.legs.table a.tariff.now.prices a.x a.y c.reversed-p.ensures c.reversed-q.ensures (weighs-amount c.pair_price-price.ensures)
    c.least_of_turns-none.ensures.1 c.least_of_turns-second.ensures.1 c.least_of_turns-first.ensures.1 c.least_of_turns.ensures.1
