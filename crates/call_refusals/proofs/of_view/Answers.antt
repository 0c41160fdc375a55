use mathlib.Core.Path.{refl, sym, ap, ◌∙◌}
use mathlib.Core.Bool.{not}
use Prim.Native.Nat.{◌/◌}
use lib.ListN.{length}
use Rattle.model.specs.Plan.{Sizes}
use Rattle.model.specs.Refusals.{bad_plan}
use Rattle.call_tests.proofs.Laws.{said, few-vehicles, few-stops}
use Rattle.call_refusals.proofs.Order.{view-order, taken, left}
use Rattle.call_refusals.proofs.Passed.{right-length}
use Rattle.call_refusals.proofs.of_view.Goals as goal
use Rattle.call_refusals.proofs.of_view.Goals.{Else-bad_stops}

-- the numbers of vehicles and stops, once 1 and 2 are passed
sizes : (c : Else-bad_stops) → let a = c.args in Sizes (length a.vehicles.now / 2) (length a.stops.now)
sizes c =
    record {
      vehicles = few-vehicles _ (said c.bad_vehicles.ensures c.if-bad_vehicles.false);
      stops = few-stops _ (said c.bad_stops.ensures c.if-bad_stops.false);
    }

pub returns-then-bad_vehicles : goal.returns-then-bad_vehicles
returns-then-bad_vehicles c = taken _ _ 1 _ c.bad_vehicles.ensures c.if-bad_vehicles.true ∙ sym (view-order _ _ _ _)

pub returns-then-bad_stops : goal.returns-then-bad_stops
returns-then-bad_stops c =
    left _ _ 1 _ _ c.bad_vehicles.ensures c.if-bad_vehicles.false (taken _ _ 2 _ c.bad_stops.ensures c.if-bad_stops.true)
    ∙ sym (view-order _ _ _ _)

pub bad_length-requires : goal.bad_length-requires
bad_length-requires c = ((sizes (goal.at.bad_length-requires c).Else-bad_stops).vehicles, (sizes (goal.at.bad_length-requires c).Else-bad_stops).stops)

pub returns-then-bad_length : goal.returns-then-bad_length
returns-then-bad_length c =
    left _ _ 1 _ _ c.bad_vehicles.ensures c.if-bad_vehicles.false
    (left _ _ 2 _ _ c.bad_stops.ensures c.if-bad_stops.false (taken _ _ 4 _ c.bad_length.ensures c.if-bad_length.true))
    ∙ sym (view-order _ _ _ _)

pub bad_length-requires-2 : goal.bad_length-requires-2
bad_length-requires-2 c = ((sizes (goal.at.bad_length-requires-2 c).Else-bad_stops).vehicles, (sizes (goal.at.bad_length-requires-2 c).Else-bad_stops).stops)

pub returns-then-bad_length-2 : goal.returns-then-bad_length-2
returns-then-bad_length-2 c =
    left _ _ 1 _ _ c.bad_vehicles.ensures c.if-bad_vehicles.false
    (left _ _ 2 _ _ c.bad_stops.ensures c.if-bad_stops.false
    (left _ _ 4 _ _ c.bad_length.ensures c.if-bad_length.false (taken _ _ 4 _ c.bad_length-2.ensures c.if-bad_length-2.true)))
    ∙ sym (view-order _ _ _ _)

pub is_plan-requires : goal.is_plan-requires
is_plan-requires c =
    record { sizes = sizes (goal.at.is_plan-requires c).Else-bad_stops; plan_len = right-length _ _ _ (said c.bad_length-2.ensures c.if-bad_length-2.false) }

pub returns-then-not-is_plan : goal.returns-then-not-is_plan
unfolding bad_plan
returns-then-not-is_plan c =
    left _ _ 1 _ _ c.bad_vehicles.ensures c.if-bad_vehicles.false
    (left _ _ 2 _ _ c.bad_stops.ensures c.if-bad_stops.false
    (left _ _ 4 _ _ c.bad_length.ensures c.if-bad_length.false
    (left _ _ 4 _ _ c.bad_length-2.ensures c.if-bad_length-2.false (taken _ _ 11 _ (ap not c.is_plan.ensures) (ap not c.if-not-is_plan.true)))))
    ∙ sym (view-order _ _ _ _)

pub bad_vans-requires : goal.bad_vans-requires
bad_vans-requires c = (sizes (goal.at.bad_vans-requires c).Else-bad_stops).vehicles

pub returns-then-bad_vans : goal.returns-then-bad_vans
unfolding bad_plan
returns-then-bad_vans c =
    left _ _ 1 _ _ c.bad_vehicles.ensures c.if-bad_vehicles.false
    (left _ _ 2 _ _ c.bad_stops.ensures c.if-bad_stops.false
    (left _ _ 4 _ _ c.bad_length.ensures c.if-bad_length.false
    (left _ _ 4 _ _ c.bad_length-2.ensures c.if-bad_length-2.false
    (left _ _ 11 _ _ (ap not c.is_plan.ensures) (ap not c.if-not-is_plan.false) (taken _ _ 15 0 c.bad_vans.ensures c.if-bad_vans.true)))))
    ∙ sym (view-order _ _ _ _)

pub returns : goal.returns
unfolding bad_plan
returns c =
    left _ _ 1 _ _ c.bad_vehicles.ensures c.if-bad_vehicles.false
    (left _ _ 2 _ _ c.bad_stops.ensures c.if-bad_stops.false
    (left _ _ 4 _ _ c.bad_length.ensures c.if-bad_length.false
    (left _ _ 4 _ _ c.bad_length-2.ensures c.if-bad_length-2.false
    (left _ _ 11 _ _ (ap not c.is_plan.ensures) (ap not c.if-not-is_plan.false) (left _ _ 15 0 0 c.bad_vans.ensures c.if-bad_vans.false refl)))))
    ∙ sym (view-order _ _ _ _)
