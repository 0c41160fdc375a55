-- The stops of the regions before q are listed.
use lib.ListN.{take}
use Rattle.solution.specs.Held.{routes}
use Rattle.rebuild_frame.specs.Listing.{AllListed}
use Rattle.rebuild_frame.proofs.list_stops.Given as goal

abbrev pub invariant-loop-q : goal.invariant-loop-q
invariant-loop-q l = AllListed (routes l.plan) (take l.q l.regions) l.initial.stops l.stops l.listed.count l.listed.word
