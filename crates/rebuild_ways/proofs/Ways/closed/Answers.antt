-- The price of a length that is no longer than the routes of any plan is exact.
use Rattle.rebuild_ways.specs.Ways.{prices_at}
use Rattle.rebuild_ways.proofs.Laws.{priced}
use Rattle.rebuild_ways.proofs.Ways.closed.Goals as goal

pub returns : goal.returns
returns c =
    let w = c.args.self.now in
    priced (prices_at w) c.requires.wholly.0 _ c.requires.whole.1 c.step-all.result w.linear
    w.quadratic c.step-all.ensures w.whole_prices.0.1 w.whole_prices.1.1
