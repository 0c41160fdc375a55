use Rattle.call_refusals.specs.Order.{of_shape}
use Rattle.call_tests.proofs.Laws.{said, few-vehicles, few-stops}
use Rattle.call_refusals.proofs.of_shape.Goals as goal

pub returns-then-bad_vehicles : goal.returns-then-bad_vehicles
unfolding of_shape
returns-then-bad_vehicles c = simp
    (said c.bad_vehicles.ensures c.if-bad_vehicles.true)

pub returns-then-bad_stops : goal.returns-then-bad_stops
unfolding of_shape
returns-then-bad_stops c = simp (
  said c.bad_vehicles.ensures c.if-bad_vehicles.false,
  said c.bad_stops.ensures c.if-bad_stops.true,
)

pub returns-then-bad_table : goal.returns-then-bad_table
unfolding of_shape
returns-then-bad_table c = simp (
  said c.bad_vehicles.ensures c.if-bad_vehicles.false,
  said c.bad_stops.ensures c.if-bad_stops.false,
  said c.bad_table.ensures c.if-bad_table.true,
)

pub bad_length-requires : goal.bad_length-requires
bad_length-requires c = (few-vehicles _ (said c.bad_vehicles.ensures c.if-bad_vehicles.false), few-stops _ (said c.bad_stops.ensures c.if-bad_stops.false))

pub returns-then-bad_length : goal.returns-then-bad_length
unfolding of_shape
returns-then-bad_length c = simp (
  said c.bad_vehicles.ensures c.if-bad_vehicles.false,
  said c.bad_stops.ensures c.if-bad_stops.false,
  said c.bad_table.ensures c.if-bad_table.false,
  said c.bad_length.ensures c.if-bad_length.true,
)

pub returns : goal.returns
unfolding of_shape
returns c = simp (
  said c.bad_vehicles.ensures c.if-bad_vehicles.false,
  said c.bad_stops.ensures c.if-bad_stops.false,
  said c.bad_table.ensures c.if-bad_table.false,
  said c.bad_length.ensures c.if-bad_length.false,
)
