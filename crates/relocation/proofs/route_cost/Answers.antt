use mathlib.Core.Path.{sym, subst}
use native.Mathlib.Omega.{arith}
use Rattle.model.specs.Plan.{route_of}
use Rattle.distance.specs.Ways.{Drivable}
use Rattle.solution.specs.Held.{numbers_of, routes}
use Rattle.delivery.specs.Costs.{Ready}
use Rattle.delivery.proofs.Ready.{drivable}
use Rattle.relocation.proofs.Weighing.{price-whole, price-amount}
use Rattle.relocation.proofs.route_cost.Goals as goal

pub route_length-length-requires : goal.route_length-length-requires
route_length-length-requires c =
    (omega (arith, c.requires, c.args.plan.now.sizes.vehicles), subst Drivable (sym c.route.ensures) (drivable c.args.tariff.now c.args.plan.now c.args.k))

pub to_whole-requires : goal.to_whole-requires
to_whole-requires c =
    let t = c.args.tariff.now in
    price-whole t.prices t.affordable t.legs.table c.args.k _ c.route_length-length.result c.route_length-length.ensures c.price.result c.price.ensures

pub returns : goal.returns
returns c =
    let t = c.args.tariff.now in
    price-amount t.prices t.affordable t.legs.table c.args.k _ c.route_length-length.result c.route_length-length.ensures c.price.result c.price.ensures
    (route_of (routes c.args.plan.now) c.args.k) c.route.ensures c.to_whole.result c.to_whole.ensures.0
