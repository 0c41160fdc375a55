use mathlib.Core.Path.{ap}
use mathlib.Core.Bool.{not}
use native.Mathlib.Omega.{arith}
use mathlib.Core.Path.{◌≡◌, ◌∙◌}
use Rattle.solution.specs.Held.{routes}
use Rattle.view.proofs.Unplaced.{set-none, set-over, set-in, set_all}
use Rattle.view.proofs.unplaced_set.Goals as goal

pub loop-s-init : goal.loop-s-init
loop-s-init c = let p = c.args.plan.now in (omega arith, set-none (routes p) p.n)

pub loop-s-preserved-then-not-contains : goal.loop-s-preserved-then-not-contains
loop-s-preserved-then-not-contains c =
    let p = c.args.plan.now in (
      omega arith,
      set-in (routes p) p.n c.placed_set-placed.result c.placed_set-placed.ensures p.sizes.stops c.loop-s.s c.loop-s.set c.loop-s-test.true
          c.loop-s.invariant.0 c.loop-s.invariant.1 c.contains.result c.contains.ensures (ap not c.if-not-contains.true) c.with-set.result c.with-set.ensures,
    )

pub loop-s-preserved : goal.loop-s-preserved
loop-s-preserved c =
    let p = c.args.plan.now in (
      omega arith,
      set-over (routes p) p.n c.placed_set-placed.result c.placed_set-placed.ensures p.sizes.stops c.loop-s.s c.loop-s.set c.loop-s-test.true
          c.loop-s.invariant.0 c.loop-s.invariant.1 c.contains.result c.contains.ensures (grind arith),
    )

pub returns : goal.returns
returns c =
    let p = c.args.plan.now in
    let z : c.loop-s.s ≡ 0 = omega arith in
    (rw z at c.loop-s.invariant.1) ∙ set_all (routes p) p.n
