-- The proof of the cycle of calls {reach}. The measure is the number of stops that are left.
use lib.ListN.{length}
use Rattle.model.specs.StopSet.{stops_of}
use Rattle.pruned.proofs.Reaching.{OnVehicles, OnStops}
use Rattle.pruned.proofs.+reach.Given as goal

abbrev pub invariant-loop-k : goal.invariant-loop-k
invariant-loop-k l = OnVehicles l.tariff l.plan (stops_of l.left) l.stop l.initial.best l.best l.found l.k

abbrev pub invariant-loop-rest : goal.invariant-loop-rest
invariant-loop-rest l = OnStops l.tariff l.plan l.left l.initial.best l.best l.found l.rest

abbrev pub decreases-loop-rest : goal.decreases-loop-rest
decreases-loop-rest l = length (stops_of l.rest)

-- the number of stops that are left
abbrev pub decreases-reach : goal.decreases-reach
decreases-reach l = length (stops_of l.left)
