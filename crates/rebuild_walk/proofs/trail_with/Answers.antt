use Rattle.std.proofs.Common.{arith}
use Rattle.rebuild_tables.specs.Meeting.{trail_with}
use Rattle.rebuild_walk.proofs.trail_with.Goals as goal

-- modulo 2 ^ 64 three sums are the product
pub returns : goal.returns
unfolding trail_with
returns c = omega arith
