use native.Mathlib.Omega.{arith}
use Rattle.call_tests.proofs.Live.{inside-live}
use Rattle.call_tests.proofs.inside.Goals as goal

pub returns : goal.returns
returns c = inside-live c.args.part c.args.set (omega arith)
