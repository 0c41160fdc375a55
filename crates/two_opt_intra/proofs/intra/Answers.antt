-- The route is reordered in a copy of the numbers, which then takes their place.
use native.Mathlib.Omega.{arith}
use mathlib.Core.Path.{refl}
use Rattle.model.specs.Plan.{route_of}
use Rattle.solution.specs.Held.{routes}
use Rattle.joining.proofs.Changed.{formed, held}
use Rattle.two_opt_intra.proofs.OnRoute.{Given, bounds, Ordered, ordered, asked, lent, left, improved}
use Rattle.two_opt_intra.proofs.intra.Goals as goal
use Rattle.two_opt_intra.proofs.intra.Goals.{After-offset-start, After-max}

-- what the laws of a pair on one route go by
given : (c : After-offset-start) → let a = c.args in Given a.plan.now a.k a.s a.t c.offset-start.result
given c = record { one = c.requires; at = c.offset-start.ensures }

-- the positions, the lower first
positions : (c : After-max) → let a = c.args in Ordered (route_of (routes a.plan.now) a.k) a.s a.t c.min.result c.max.result
positions c = ordered (given (goal.at.After-max c).After-offset-start) c.position-i.ensures c.position-j.ensures c.min.ensures c.max.ensures

pub overflow_add-end : goal.overflow_add-end
overflow_add-end c = omega (arith, bounds (given (goal.at.overflow_add-end c).After-offset-start))

pub offset_bounds-form-start : goal.offset_bounds-form-start
offset_bounds-form-start c = omega (arith, bounds (given (goal.at.offset_bounds-form-start c).After-offset-start))

pub slice_bounds-route-end : goal.slice_bounds-route-end
slice_bounds-route-end c = omega (arith, bounds (given (goal.at.slice_bounds-route-end c).After-offset-start))

pub reorder-requires : goal.reorder-requires
reorder-requires c =
    let parts = asked (given (goal.at.reorder-requires c).After-offset-start) c.args.tariff.now (positions (goal.at.reorder-requires c).After-max) in
    record { weighable = parts.0; i_lt_j = parts.1 }

pub invariant_of-plan : goal.invariant_of-plan
invariant_of-plan c =
    let p = c.args.plan.now in
    let t = c.args.tariff.now in
    let G = given (goal.at.invariant_of-plan c).After-offset-start in
    let o = positions (goal.at.invariant_of-plan c).After-max in
    record { sizes = p.sizes; lent = held p.v p.n _ _ _ (left G t o c.reorder.new.route c.reorder.ensures) (lent G t o) }

pub returns : goal.returns
returns c =
    let p = c.args.plan.now in
    let t = c.args.tariff.now in
    let G = given (goal.at.returns c).After-offset-start in
    let o = positions (goal.at.returns c).After-max in
    let form = formed p.v p.n _ _ _ (left G t o c.reorder.new.route c.reorder.ensures) (lent G t o) in
    record { plan_after = improved G t o _ (record { vehicles = refl; stops = refl; form = form }); sizes = (refl, refl) }
