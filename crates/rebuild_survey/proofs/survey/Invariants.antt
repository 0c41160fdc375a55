-- The gaps before q are written, and the rest is as it was.
use Rattle.rebuild_survey.proofs.Surveys.{Surveying}
use Rattle.rebuild_survey.proofs.survey.Given as goal

abbrev pub invariant-loop-q : goal.invariant-loop-q
invariant-loop-q l = Surveying l.legs l.plan l.regions l.initial.gaps l.q l.gaps
