use Prim.Native.Nat.{ℕ, ◌+◌, ◌≤◌}
use mathlib.Core.Path.{◌≡◌, sym, ap, ◌∙◌, subst}
use native.Mathlib.Omega.{arith}
use native.Mathlib.Numerals.{add-one}
use lib.ListN.{length, take, get_or}
use Rattle.model.specs.Lists.{sum as added, part}
use Rattle.model.specs.Whole.{whole}
use Rattle.model.specs.Plan.{Route, route_of, decode}
use Rattle.model.specs.Legs.{depot}
use Rattle.model.specs.Cost.{price}
use Rattle.distance.specs.Ways.{table_legs, Drivable}
use Rattle.model.proofs.Lists.{sum_more}
use Rattle.model.proofs.PlanForm.{route-part, route-end}
use Rattle.whole.proofs.Laws.{zero-whole}
use Rattle.delivery.specs.Costs.{table_driving, Ready}
use Rattle.delivery.proofs.Ready.{read}
use Rattle.delivery.proofs.Laws.{lent-drivable, driving-step, drives-is}
use Rattle.delivery.proofs.driving_cost.Goals as goal
use Rattle.delivery.proofs.driving_cost.Goals.{After-form-form, In-loop-k}

-- the form that is read is lent
form : (c : After-form-form) → let t = c.args.tariff.now in let p = c.args.plan.now in Ready t.legs.table p.v p.n t.prices c.form-form.result.now
form c = read c.args.tariff.now c.args.plan.now c.form-form.result.now c.form-form.ensures

-- where the route of a turn ends
ends : (c : In-loop-k)
    → (added (take c.loop-k.k c.form-form.result.now) + get_or c.form-form.result.now c.loop-k.k 0 ≤ c.args.plan.now.n)
    × (length c.form-form.result.now ≡ c.args.plan.now.v + c.args.plan.now.n)
ends c =
    let R = read c.args.tariff.now c.args.plan.now c.form-form.result.now c.form-form.ensures in
    (route-end c.args.plan.now.v c.args.plan.now.n c.form-form.result.now R.plan.long R.plan.fits c.loop-k.k c.loop-k-test.true, R.plan.long)

-- the route of a turn is the part that is lent
here : (c : In-loop-k)
    → route_of (decode c.args.plan.now.v c.form-form.result.now) c.loop-k.k
    ≡ part c.loop-k.at (c.loop-k.at + get_or c.form-form.result.now c.loop-k.k 0) c.form-form.result.now
here c =
    route-part c.args.plan.now.v c.form-form.result.now (omega (arith, ends c)) c.loop-k.k c.loop-k.at c.loop-k-test.true c.loop-k.invariant.0

pub loop-k-init : goal.loop-k-init
unfolding table_driving
loop-k-init c = (omega arith, zero-whole)

pub overflow_cast-end : goal.overflow_cast-end
overflow_cast-end c = omega (arith, ends (goal.at.overflow_cast-end c).In-loop-k, c.args.plan.now.sizes.stops)

pub overflow_add-end : goal.overflow_add-end
overflow_add-end c = omega (arith, ends (goal.at.overflow_add-end c).In-loop-k, c.args.plan.now.sizes.stops, c.args.plan.now.sizes.vehicles)

pub offset_bounds-form-at : goal.offset_bounds-form-at
offset_bounds-form-at c = omega (arith, ends (goal.at.offset_bounds-form-at c).In-loop-k, c.args.plan.now.sizes.stops, c.args.plan.now.sizes.vehicles)

pub slice_bounds-route_length-end : goal.slice_bounds-route_length-end
slice_bounds-route_length-end c = omega (arith, ends (goal.at.slice_bounds-route_length-end c).In-loop-k)

pub route_length-length-requires : goal.route_length-length-requires
route_length-length-requires c = (
  omega (arith, c.args.plan.now.sizes.vehicles),
  subst Drivable (here (goal.at.route_length-length-requires c).In-loop-k) (lent-drivable _ _ _ _ _ (form (goal.at.route_length-length-requires c).After-form-form) c.loop-k.k),
)

pub price-sum-requires : goal.price-sum-requires
price-sum-requires c =
    (omega (arith, c.route_length-length.ensures.small), c.args.tariff.now.affordable)

pub loop-k-preserved : goal.loop-k-preserved
loop-k-preserved c =
    let l = c.loop-k in
    let t = c.args.tariff.now in
    let F = c.form-form.result.now in
    let length : c.route_length-length.result ≡ table_legs t.legs.table (depot l.k) (route_of (decode c.args.plan.now.v F) l.k) (depot l.k) =
    c.route_length-length.ensures.way ∙ ap (λ (r : Route). table_legs t.legs.table (depot l.k) r (depot l.k)) (sym (here (goal.at.loop-k-preserved c).In-loop-k))
    in (
      omega (arith, l.invariant.0, sum_more F l.k, ap (λ (j : ℕ). added (take j F)) (add-one l.k)),
      driving-step _ _ _ _ _ (form (goal.at.loop-k-preserved c).After-form-form) l.k l.sum c.price-sum.result c.loop-k-test.true
          l.invariant.1 (c.price-sum.ensures ∙ ap (λ (d : ℕ). whole (price t.prices d)) length),
    )

pub returns : goal.returns
returns c =
    rw c.form-form.ensures at
    (drives-is _ _ _ _ _ (form (goal.at.returns c).After-form-form) c.loop-k.k c.loop-k.sum c.loop-k-test.false c.loop-k.invariant.1)
