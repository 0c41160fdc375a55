use mathlib.Core.Path.{refl, ◌∙◌}
use Rattle.model.specs.Vans.{view}
use Rattle.model.proofs.PlanForm.{lent_length}
use Rattle.solution.specs.Held.{numbers_of, routes}
use Rattle.view.proofs.Views.{view-routes}
use Rattle.view.proofs.Seeing.{seen-whole}
use Rattle.view.proofs.view.Goals as goal

pub returns-clause-seen_after : goal.returns-clause-seen_after
returns-clause-seen_after c =
    let p = c.args.plan.now in
    seen-whole p.v p.n c.args.seen.now _ c.see_lengths.new.lengths c.see_stops.new.area (view c.args.vans (routes p))
    (view-routes c.args.vans (routes p) ∙ lent_length p.v p.n (numbers_of p) p.lent) c.see_lengths.ensures refl c.see_stops.ensures
