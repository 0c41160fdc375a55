use Rattle.two_opt_intra.proofs.Choice.{weighed}
use Rattle.two_opt_intra.proofs.weigh.Goals as goal

pub returns : goal.returns
returns c = weighed _ c.args.tariff.now.affordable c.route_length-length.ensures c.price.ensures
