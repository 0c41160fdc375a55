use native.Mathlib.Omega.{arith}
use Rattle.sheet_calls.proofs.live_set.Goals as goal

pub overflow_cast-result : goal.overflow_cast-result
overflow_cast-result c = omega (arith, c.shared_slice_known-1.given 1, c.shared_slice_known-1.given 2)

pub overflow_cast-result-2 : goal.overflow_cast-result-2
overflow_cast-result-2 c = omega (arith, c.shared_slice_known-1.given 1, c.shared_slice_known-1.given 2)

pub overflow_mul-result : goal.overflow_mul-result
overflow_mul-result c = omega (arith, c.shared_slice_known-1.given 1, c.shared_slice_known-1.given 2)

pub overflow_add-result : goal.overflow_add-result
overflow_add-result c = omega (arith, c.shared_slice_known-1.given 1, c.shared_slice_known-1.given 2)
