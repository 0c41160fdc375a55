use Rattle.solution.specs.Held.{routes}
use Rattle.two_opt_inter.proofs.Plans.{pair-routes, pair_found}
use Rattle.two_opt_inter.proofs.least_of_plan.Goals as goal

pub least_pair-requires : goal.least_pair-requires
least_pair-requires c =
    pair-routes c.args.tariff.now c.requires c.route-ra.result.now c.route-rb.result.now c.route-ra.ensures c.route-rb.ensures

pub returns : goal.returns
returns c =
    let a = c.args in
    pair_found a.tariff.now (routes a.plan.now) a.first.vehicle a.first.stop a.second.vehicle a.second.stop c.route-ra.result.now c.route-rb.result.now
    c.least_pair.result c.least_pair.ensures c.route-ra.ensures c.route-rb.ensures
