use Rattle.two_opt_cuts.proofs.Laws.{end_more}
use Rattle.two_opt_cuts.proofs.onward.Goals as goal

pub returns : goal.returns
returns c k xs E =
    let a = c.args in
    end_more a.legs.now.table k xs a.stop c.leg.result c.leg-2.result a.end c.leg.ensures.0 c.leg-2.ensures.0 E
