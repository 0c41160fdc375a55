use Prim.Native.Nat.{◌-◌}
use native.Mathlib.Omega.{arith}
use Rattle.model.specs.Legs.{depot}
use Rattle.model.proofs.Counts.{below_at}
use Rattle.arrival.proofs.Ways.{comes-first, comes-later}
use Rattle.arrival.proofs.comes_from.Goals as goal

pub returns-then-place-eq0 : goal.returns-then-place-eq0
returns-then-place-eq0 c = let a = c.args in (comes-first (depot a.k) a.route.now a.place c.if-place-eq0.true, omega arith)

pub overflow_cast-result : goal.overflow_cast-result
overflow_cast-result c = let a = c.args in omega (arith, c.shared_slice_known-1.given (a.place - 1))

pub returns : goal.returns
returns c =
    let a = c.args in
    (comes-later (depot a.k) a.route.now a.place (omega arith) c.requires.2, omega (arith, below_at 64 a.route.now (a.place - 1) c.requires.1.stops (omega arith)))
