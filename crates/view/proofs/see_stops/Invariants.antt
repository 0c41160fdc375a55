-- `view::see_stops`: the stops of the routes that are passed are written.
use Rattle.solution.specs.Held.{routes}
use Rattle.view.proofs.Seeing.{Stops}
use Rattle.view.proofs.see_stops.Given as goal

abbrev pub invariant-loop-k : goal.invariant-loop-k
invariant-loop-k l = Stops l.plan.v l.plan.n (routes l.plan) l.vans l.k l.at l.area
