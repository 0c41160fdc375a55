-- The stops before `stop` are on the first route.
use Prim.Native.Nat.{◌≤◌}
use Rattle.solution.specs.Held.{Holds}
use Rattle.exhaustive.specs.Full.{full_plan}
use Rattle.exhaustive.proofs.full.Given as goal

abbrev pub invariant-loop-stop : goal.invariant-loop-stop
invariant-loop-stop l = (l.stop ≤ l.n) × Holds l.v l.n (full_plan l.v l.stop) l.plan
