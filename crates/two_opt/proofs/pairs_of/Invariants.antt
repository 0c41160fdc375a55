-- The invariant: the pairs that are left make of the plan what all of them make of the first plan.
use Rattle.two_opt.specs.Pairs.{pairs_of}
use Rattle.two_opt.proofs.Turns.{SoFar, pairs_with}
use Rattle.two_opt.proofs.pairs_of.Given as goal

abbrev pub invariant-loop-t : goal.invariant-loop-t
invariant-loop-t l =
    SoFar l.tariff l.initial.plan (pairs_of l.i l.stops) l.plan (pairs_with l.s l.t-items l.t-index)
