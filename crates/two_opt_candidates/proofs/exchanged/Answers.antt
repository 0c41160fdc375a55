use Rattle.two_opt_candidates.specs.Weighed.{found}
use Rattle.two_opt_candidates.proofs.Weighing.{joins-tails, exchange, two-tried}
use Rattle.two_opt_candidates.proofs.exchanged.Goals as goal

pub weighed-tails-requires : goal.weighed-tails-requires
weighed-tails-requires c = (joins-tails c.requires.0, c.requires.2)

pub weighed-requires : goal.weighed-requires
weighed-requires c = (joins-tails (exchange c.requires.0), c.weighed-tails.ensures.0)

pub returns : goal.returns
returns c =
    let a = c.args in
    (c.weighed.ensures.0, two-tried a.tariff.now.legs.table a.tariff.now.prices a.x a.y a.code (found a.best) c.weighed-tails.ensures.1 c.weighed.ensures.1)
