-- `solution::position`: `at` is the first position among the places from i on.
use Prim.Native.Nat.{◌+◌, ◌≤◌}
use mathlib.Core.Path.{◌≡◌}
use lib.ListN.{length, drop}
use Rattle.model.specs.Lists.{position}
use Rattle.solution.proofs.position.Given as goal

abbrev pub invariant-loop-i : goal.invariant-loop-i
invariant-loop-i l = (l.i ≤ length l.part) × (l.at ≡ l.i + position l.stop (drop l.i l.part))
