-- What is known of the gaps passed is written.
use Rattle.rebuild_ways.specs.Fills.{GapsFilled}
use Rattle.rebuild_ways.proofs.Ways.fill_gaps.Given as goal

abbrev pub invariant-loop-q : goal.invariant-loop-q
invariant-loop-q l = GapsFilled l.gaps l.q l.initial.self l.self
