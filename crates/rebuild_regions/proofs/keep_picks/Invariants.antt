use Rattle.solution.specs.Held.{routes}
use Rattle.rebuild_regions.proofs.Keeping.{Picking}
use Rattle.rebuild_regions.proofs.keep_picks.Given as goal

abbrev pub invariant-loop-pick : goal.invariant-loop-pick
invariant-loop-pick l = Picking (routes l.plan) l.picks l.initial.kept l.kept l.named l.p l.pick-index
