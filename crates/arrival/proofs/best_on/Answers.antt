use Prim.Native.Nat.{ℕ, suc, ◌+◌}
use mathlib.Core.Path.{◌≡◌, sym, ap, ◌∙◌, subst}
use native.Mathlib.Omega.{arith}
use lib.Ieee.{binary64, add, sub}
use lib.ListN.{length as long}
use Rattle.model.specs.Whole.{amount, IsWhole}
use Rattle.model.specs.Plan.{route_of}
use Rattle.distance.specs.Ways.{Drivable}
use Rattle.solution.specs.Held.{numbers_of, routes}
use Rattle.arrival.specs.Places.{counted, tried_on}
use Rattle.arrival.proofs.Weighing.{cost-whole, cost-amount}
use Rattle.arrival.proofs.Choice.{tried-none, tried-more}
use Rattle.delivery.proofs.Ready.{drivable}
use Rattle.arrival.proofs.best_on.Goals as goal
use Rattle.arrival.proofs.best_on.Goals.{After-route-route, After-price-in-loop-position, After-better-found}

driven : (c : After-route-route) → Drivable c.route-route.result.now
driven c =
    subst Drivable (sym c.route-route.ensures) (drivable c.args.tariff.now c.args.plan.now c.args.k)

weighed : (c : After-price-in-loop-position) → IsWhole (add binary64 (sub binary64 c.args.left c.price.result) c.price-in-loop-position.result)
weighed c =
    let l = c.route_length-length in
    let w = c.length_with-longer in
    cost-whole c.requires _ c.route-route.ensures c.loop-position.position l.result w.result c.price.result c.price-in-loop-position.result l.ensures.way c.price.ensures
    w.ensures.0 w.ensures.1 c.price-in-loop-position.ensures

-- the place of a turn is tried
more : (c : After-better-found)
    → let a = c.args in
    counted c.better-found.result
    ≡ tried_on a.tariff.now.legs.table a.tariff.now.prices a.k (route_of (routes a.plan.now) a.k) (amount a.left) a.stop (c.loop-position.position + 1) (counted a.best)
more c =
    let l = c.route_length-length in
    let w = c.length_with-longer in
    tried-more _ _ _ _ _ _ _ c.loop-position.position _ (counted c.loop-position.found) _
    (cost-amount c.requires _ c.route-route.ensures c.loop-position.position l.result w.result c.price.result c.price-in-loop-position.result l.ensures.way c.price.ensures
    w.ensures.0 w.ensures.1 c.price-in-loop-position.ensures)
    c.loop-position.invariant.2 c.better-found.ensures.1

pub route_length-length-requires : goal.route_length-length-requires
route_length-length-requires c =
    (omega (arith, c.requires.vehicle, c.args.plan.now.sizes.vehicles), driven (goal.at.route_length-length-requires c).After-route-route)

pub loop-position-init : goal.loop-position-init
loop-position-init c = (omega arith, c.requires.best, tried-none _ _ _ _ _ _ _)

pub length_with-longer-requires : goal.length_with-longer-requires
length_with-longer-requires c =
    record {
      vehicle = omega (arith, c.requires.vehicle, c.args.plan.now.sizes.vehicles);
      route = driven (goal.at.length_with-longer-requires c).After-route-route;
      way = c.route_length-length.ensures.way;
      place = omega arith;
      stop = c.requires.stop;
    }

pub better-found-requires : goal.better-found-requires
better-found-requires c = (weighed (goal.at.better-found-requires c).After-price-in-loop-position, c.loop-position.invariant.1)

pub loop-position-preserved : goal.loop-position-preserved
loop-position-preserved c =
    (omega arith, c.better-found.ensures.0, more (goal.at.loop-position-preserved c).After-better-found)

-- the last place, after which the range has no other
pub returns-2 : goal.returns-2
returns-2 c =
    let a = c.args in
    let e : c.loop-position.position + 1 ≡ suc (long (route_of (routes a.plan.now) a.k)) = omega (arith, ap long c.route-route.ensures) in (
      c.better-found.ensures.0,
      more (goal.at.returns-2 c).After-better-found
          ∙ ap (λ (i : ℕ). tried_on a.tariff.now.legs.table a.tariff.now.prices a.k (route_of (routes a.plan.now) a.k) (amount a.left) a.stop i (counted a.best)) e,
    )
