-- The invariant: the stops that have come are passed.
use Rattle.std.specs.Iterator.{AlwaysYields}
use Rattle.model.specs.Plan.{Route}
use Rattle.two_opt_cuts.proofs.Laws.{Walk}
use Rattle.two_opt_cuts.proofs.ends_along.Given as goal

abbrev pub invariant-loop-stop : goal.invariant-loop-stop
invariant-loop-stop g l =
    (goal.iterator-loop-stop g).can_next l.stop-iterator × (goal.iterator-loop-stop g).is_finite l.stop-iterator
    × ((xs : Route) → AlwaysYields (goal.iterator-loop-stop g).next_gives (λ s. s.now) l.initial.stop-iterator xs
    → Walk (goal.iterator-loop-stop g).next_gives (λ s. s.now) l.legs.table l.a l.b xs l.stop-iterator l.ends)
