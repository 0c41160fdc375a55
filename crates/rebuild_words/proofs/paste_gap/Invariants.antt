-- The placements up to c are passed, and those of the gap written.
use Rattle.rebuild_words.proofs.Gaps.{Passed}
use Rattle.rebuild_words.proofs.paste_gap.Given as goal

abbrev pub invariant-loop-c : goal.invariant-loop-c
invariant-loop-c l = Passed l.initial.to l.at l.word l.gap l.c-index l.to l.end
