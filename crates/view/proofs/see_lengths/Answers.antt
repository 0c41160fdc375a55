use mathlib.Core.Path.{sym, ap, ◌∙◌}
use native.Mathlib.Omega.{arith}
use lib.ListN.{set, length}
use Rattle.model.specs.Lists.{concat}
use Rattle.model.specs.Plan.{route_of}
use Rattle.model.proofs.Counts.{count-route, length-le}
use Rattle.model.proofs.PlanForm.{lent_length, lent_placed}
use Rattle.solution.specs.Held.{numbers_of, routes}
use Rattle.view.proofs.Seeing.{lengths_none, lengths-own, lengths-other, lengths-all}
use Rattle.view.proofs.see_lengths.Goals as goal
use Rattle.view.proofs.see_lengths.Goals.{then-own, else-own}

pub loop-k-init : goal.loop-k-init
loop-k-init c =
    let p = c.args.plan.now in
    lengths_none p.v (routes p) c.args.vans c.args.lengths.now c.requires

-- a route is no longer than the plan has stops
pub overflow_cast-lengths : goal.overflow_cast-lengths
overflow_cast-lengths c =
    let p = c.args.plan.now in
    let k = c.loop-k.k in
    omega (
      arith,
      ap length c.route.ensures,
      length-le (route_of (routes p) k) (concat (routes p)) (λ s. count-route s (routes p) k),
      lent_placed p.v p.n (numbers_of p) p.lent,
      p.sizes.stops,
    )

pub loop-k-preserved : goal.loop-k-preserved
loop-k-preserved c =
    let p = c.args.plan.now in
    let l = lent_length p.v p.n (numbers_of p) p.lent in
    let i = c.loop-k.invariant in
    elim c.if-own.branch [
      | then-own w ↦ lengths-own p.v (routes p) l c.args.vans c.loop-k.k c.loop-k.lengths i c.loop-k-test.true _ (sym c.contains-own.ensures ∙ w.if-own.true)
          (ap (set c.loop-k.lengths c.loop-k.k) (w.lengths-is ∙ ap length w.route.ensures))
      | else-own w ↦ lengths-other p.v (routes p) l c.args.vans c.loop-k.k c.loop-k.lengths i c.loop-k-test.true _ (sym c.contains-own.ensures ∙ w.if-own.false)
          (ap (set c.loop-k.lengths c.loop-k.k) w.lengths-is)
    ]

pub returns : goal.returns
returns c =
    let p = c.args.plan.now in
    lengths-all p.v (routes p) (lent_length p.v p.n (numbers_of p) p.lent) c.args.vans c.loop-k.k c.loop-k.lengths c.loop-k.invariant c.loop-k-test.false
