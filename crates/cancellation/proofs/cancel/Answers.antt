use Rattle.cancellation.proofs.After.{weighable, costs}
use Rattle.cancellation.proofs.cancel.Goals as goal

pub live_cost-requires : goal.live_cost-requires
live_cost-requires c =
    weighable c.args.tariff.now c.args.plan.now _ c.args.live c.args.stop _ c.requires c.leave.ensures c.without-rest.ensures

pub returns : goal.returns
returns c =
    record {
      plan_after = c.leave.ensures;
      value = costs c.args.tariff.now c.args.plan.now _ c.args.live c.args.stop _ c.requires c.leave.ensures c.without-rest.ensures c.live_cost.result c.live_cost.ensures;
    }
