-- The invariant: the pairs that are left make of the plan what all of them make of the first plan.
use lib.ListN.{drop}
use Rattle.model.specs.Lists.{pairs}
use Rattle.two_opt.proofs.Turns.{SoFar}
use Rattle.two_opt.proofs.all_pairs.Given as goal

abbrev pub invariant-loop-i : goal.invariant-loop-i
invariant-loop-i l = SoFar l.tariff l.initial.plan (pairs l.stops) l.plan (pairs (drop l.i l.stops))
