use Rattle.two_opt_candidates.proofs.Weighing.{pair_weighs}
use Rattle.two_opt_candidates.proofs.pair_price.Goals as goal

pub returns : goal.returns
returns c =
    pair_weighs c.args.tariff.now.prices c.joined-x.result c.joined-y.result _ _ c.price.result c.price-2.result c.args.tariff.now.affordable
    c.joined-x.ensures.0 c.joined-y.ensures.0 c.joined-x.ensures.1 c.joined-y.ensures.1 c.price.ensures c.price-2.ensures
