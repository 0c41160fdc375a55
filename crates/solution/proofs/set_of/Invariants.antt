use Prim.Native.Nat.{◌^◌, ◌<◌}
use lib.ListN.{take}
use Rattle.solution.proofs.Sets.{Holds}
use Rattle.solution.proofs.set_of.Given as goal

abbrev pub invariant-loop-stop : goal.invariant-loop-stop
invariant-loop-stop l = (l.set < 2 ^ 64) × Holds (take l.stop-index l.part) l.set
