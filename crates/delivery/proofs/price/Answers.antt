-- Each product and the sum are exact.
use Rattle.delivery.proofs.Laws.{price-exact}
use Rattle.delivery.proofs.price.Goals as goal

pub returns : goal.returns
returns c =
    price-exact c.args.prices c.requires.1 c.args.length c.requires.0
