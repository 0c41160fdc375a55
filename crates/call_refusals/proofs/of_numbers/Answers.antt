use Rattle.call_refusals.specs.Order.{of_numbers}
use Rattle.call_tests.proofs.Laws.{said}
use Rattle.call_refusals.proofs.of_numbers.Goals as goal

pub returns-then-bad_prices : goal.returns-then-bad_prices
unfolding of_numbers
returns-then-bad_prices c = simp (said c.bad_prices.ensures c.if-bad_prices.true)

pub returns-then-bad_smoothing : goal.returns-then-bad_smoothing
unfolding of_numbers
returns-then-bad_smoothing c = simp (
  said c.bad_prices.ensures c.if-bad_prices.false,
  said c.bad_smoothing.ensures c.if-bad_smoothing.true,
)

pub returns-then-bad_limit : goal.returns-then-bad_limit
unfolding of_numbers
returns-then-bad_limit c = simp (
  said c.bad_prices.ensures c.if-bad_prices.false,
  said c.bad_smoothing.ensures c.if-bad_smoothing.false,
  said c.bad_limit.ensures c.if-bad_limit.true,
)

pub returns : goal.returns
unfolding of_numbers
returns c = simp (
  said c.bad_prices.ensures c.if-bad_prices.false,
  said c.bad_smoothing.ensures c.if-bad_smoothing.false,
  said c.bad_limit.ensures c.if-bad_limit.false,
)
