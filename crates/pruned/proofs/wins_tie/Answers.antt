use mathlib.Core.Path.{◌≡◌, sym, ap, ap₂, ◌∙◌}
use native.Mathlib.Omega.{arith}
use lib.ListN.{length}
use Rattle.model.specs.Lists.{lower}
use Rattle.model.specs.Plan.{placed, encode}
use Rattle.solution.specs.Held.{routes}
use Rattle.pruned.proofs.Preferring.{more, fewer, as_many}
use Rattle.pruned.proofs.wins_tie.Goals as goal
use Rattle.pruned.proofs.wins_tie.Goals.{After-size-most}

here : (c : After-size-most) → placed (routes c.args.plan.now) ≡ c.size-placed.result
here c = sym (c.size-placed.ensures.digits ∙ c.placed_set.ensures.size)

there : (c : After-size-most) → placed (routes c.args.best.now) ≡ c.size-most.result
there c = sym (c.size-most.ensures.digits ∙ c.placed_set-2.ensures.size)

pub lower-requires : goal.lower-requires
lower-requires c =
    let p = c.args.plan.now in
    let b = c.args.best.now in
    ap length c.form.ensures ∙ p.lent.long ∙ omega (arith, c.requires.vehicles, c.requires.stops) ∙ sym b.lent.long ∙ sym (ap length c.form-then-placed-most.ensures)

pub returns-then-most-placed : goal.returns-then-most-placed
returns-then-most-placed c =
    let d = (goal.at.returns-then-most-placed c).After-size-most in
    more c.args.plan.now.n _ _ _ _ (here d) (there d) c.if-most-placed.true

pub returns-then-placed-most : goal.returns-then-placed-most
returns-then-placed-most c =
    let d = (goal.at.returns-then-placed-most c).After-size-most in
    let p = c.args.plan.now in
    let b = c.args.best.now in
    as_many p.n _ _ _ _ (here d) (there d) (omega (arith, c.if-most-placed.false)) c.if-placed-most.true _
    (c.lower.ensures ∙ ap₂ lower (c.form.ensures ∙ p.lent.form) (c.form-then-placed-most.ensures ∙ b.lent.form ∙ ap (λ m. encode m (routes b)) c.requires.stops))

pub returns-else-placed-most : goal.returns-else-placed-most
returns-else-placed-most c =
    let d = (goal.at.returns-else-placed-most c).After-size-most in
    fewer c.args.plan.now.n _ _ _ _ (here d) (there d) (omega (arith, c.if-most-placed.false)) c.if-placed-most.false
