use native.Mathlib.Omega.{arith}
use Rattle.model.specs.Legs.{depot}
use Rattle.model.proofs.Counts.{below_at}
use Rattle.arrival.proofs.Ways.{at_place, at-end}
use Rattle.arrival.proofs.goes_to.Goals as goal

pub overflow_cast-result : goal.overflow_cast-result
overflow_cast-result c = omega (arith, c.shared_slice_known-1.given c.args.place)

pub returns-then-place-route : goal.returns-then-place-route
returns-then-place-route c =
    let a = c.args in
    (at_place a.route.now a.place (depot a.k) c.if-place-route.true, omega (arith, below_at 64 a.route.now a.place c.requires.1.stops c.if-place-route.true))

pub returns : goal.returns
returns c = let a = c.args in (at-end a.route.now a.place (depot a.k) c.if-place-route.false, omega arith)
