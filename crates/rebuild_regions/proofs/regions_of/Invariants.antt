use Rattle.solution.specs.Held.{routes}
use Rattle.rebuild_regions.proofs.Around.{Written}
use Rattle.rebuild_regions.proofs.regions_of.Given as goal

abbrev pub invariant-loop-i : goal.invariant-loop-i
invariant-loop-i l = Written (routes l.plan) l.size l.kept l.p l.initial.out l.out l.i
