use Rattle.roads.proofs.Walks.{Walked}
use Rattle.roads.proofs.route_tally.Given as goal

abbrev pub invariant-loop-stop : goal.invariant-loop-stop
invariant-loop-stop l =
    Walked l.network.stops.now l.network.locations l.network.distances.now l.road l.start l.end l.route l.uses l.metres l.here l.stop-index
