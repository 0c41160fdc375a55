-- The stops of the part so far are listed.
use Rattle.rebuild_frame.proofs.Listing.{Listing}
use Rattle.rebuild_frame.proofs.list_gap.Given as goal

abbrev pub invariant-loop-stop : goal.invariant-loop-stop
invariant-loop-stop l = Listing l.initial.stops l.part l.initial.count l.initial.word l.stop-index l.stops l.count l.word
