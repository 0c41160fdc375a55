use mathlib.Core.Path.{refl, sym, ◌∙◌}
use Rattle.solution.specs.Held.{numbers_of, routes}
use Rattle.joining.proofs.Leaving.{stays}
use Rattle.cancellation.proofs.leave.Goals as goal

pub returns-in_default : goal.returns-in_default
returns-in_default c =
    let p = c.args.plan.now in
    record { vehicles = refl; stops = refl; form = stays p.n c.args.stop (routes p) (numbers_of p) (sym c.in_default.is ∙ c.find.ensures) p.lent.form }
