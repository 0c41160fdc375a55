-- The digits before place i are read, and the codes of the stops among them written.
use Rattle.rebuild_frame.proofs.Codes.{Read}
use Rattle.rebuild_frame.proofs.codes_of.Given as goal

abbrev pub invariant-loop-i : goal.invariant-loop-i
invariant-loop-i l = Read l.frame l.word l.i l.m l.gap l.codes
