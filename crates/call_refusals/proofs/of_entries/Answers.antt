use Rattle.call_refusals.specs.Order.{of_entries}
use Rattle.call_tests.proofs.Laws.{said}
use Rattle.call_refusals.proofs.of_entries.Goals as goal

pub returns-then-bad_locations : goal.returns-then-bad_locations
unfolding of_entries
returns-then-bad_locations c = simp (said c.bad_locations.ensures c.if-bad_locations.true)

pub returns-then-bad_distances : goal.returns-then-bad_distances
unfolding of_entries
returns-then-bad_distances c = simp (said c.bad_locations.ensures c.if-bad_locations.false, said c.bad_distances.ensures c.if-bad_distances.true)

pub returns : goal.returns
unfolding of_entries
returns c = simp (said c.bad_locations.ensures c.if-bad_locations.false, said c.bad_distances.ensures c.if-bad_distances.false)
