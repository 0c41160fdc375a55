use native.Mathlib.Omega.{arith}
use Rattle.solution.specs.Held.{routes}
use Rattle.delivery.specs.Costs.{table_price}
use Rattle.relocation.proofs.Pairs.{pair_one, pair-two}
use Rattle.relocation.proofs.both_cost.Goals as goal

pub returns-then-a-b : goal.returns-then-a-b
returns-then-a-b c =
    let a = c.args in
    let e = c.route_cost-cost.ensures in
    (pair_one (table_price a.tariff.now.legs.table a.tariff.now.prices) (routes a.plan.now) a.a a.b c.route_cost-cost.result e.0 c.if-a-b.true, omega (arith, e.1))

pub returns : goal.returns
returns c =
    let a = c.args in
    let e = c.route_cost-cost.ensures in
    let f = c.route_cost.ensures in (
      pair-two (table_price a.tariff.now.legs.table a.tariff.now.prices) (routes a.plan.now) a.a a.b c.route_cost-cost.result e.0 c.if-a-b.false c.route_cost.result f.0,
      omega (arith, e.1, f.1),
    )
