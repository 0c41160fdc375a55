-- The routes up to i are written, and end at `at`; route i of the plan begins at `start`.
use Prim.Native.Nat.{◌+◌}
use mathlib.Core.Path.{◌≡◌}
use lib.ListN.{take}
use Rattle.model.specs.Lists.{sum}
use Rattle.solution.specs.Held.{routes}
use Rattle.rebuild_words.specs.Words.{plan_of}
use Rattle.rebuild_words.proofs.Composed.{Written}
use Rattle.rebuild_words.proofs.compose.Given as goal

abbrev pub invariant-loop-i : goal.invariant-loop-i
invariant-loop-i l =
    (l.start ≡ l.plan.v + sum (take l.i l.form)) × Written l.plan.v l.plan.n (plan_of (routes l.plan) l.regions l.word) l.i l.at l.to
