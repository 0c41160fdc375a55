use mathlib.Core.Path.{refl}
use Rattle.two_opt_inter.proofs.Plans.{left, left-old}
use Rattle.two_opt_inter.proofs.inter.Goals as goal

pub returns-then-code-eq-OLD_PLAN : goal.returns-then-code-eq-OLD_PLAN
returns-then-code-eq-OLD_PLAN c =
    let k = c.least_of_plan-best in
    let a = c.args in
    record {
      plan_after = left a.tariff.now c.requires k.result.code k.ensures a.plan.now
          (left-old a.plan.now a.first.vehicle a.first.stop a.second.vehicle a.second.stop k.result.code c.if-code-eq-OLD_PLAN.true);
      sizes = (refl, refl);
    }

pub returns : goal.returns
returns c =
    let k = c.least_of_plan-best in
    let w = c.write_candidate in
    record { plan_after = left c.args.tariff.now c.requires k.result.code k.ensures w.new.plan w.ensures; sizes = (w.ensures.vehicles, w.ensures.stops) }
