use Rattle.two_opt_candidates.specs.Weighed.{found}
use Rattle.two_opt_candidates.proofs.Weighing.{weighs-whole, tried-first, tried-second}
use Rattle.two_opt_candidates.proofs.weighed.Goals as goal

pub returns-then-cheaper : goal.returns-then-cheaper
returns-then-cheaper c =
    let w = c.pair_price-price in
    let a = c.args in
    (weighs-whole w.ensures, tried-first w.ensures a.code (found a.best) c.cheaper.result c.cheaper.ensures c.if-cheaper.true)

pub returns : goal.returns
returns c =
    let w = c.pair_price-price in
    (c.requires.1, tried-second w.ensures c.args.code (found c.args.best) c.cheaper.result c.cheaper.ensures c.if-cheaper.false)
