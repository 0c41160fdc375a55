use mathlib.Core.Path.{ap, ◌∙◌}
use lib.ListN.{length}
use Rattle.model.specs.Plan.{encode}
use Rattle.solution.specs.Held.{routes}
use Rattle.joining.proofs.Changed.{end-placing}
use Rattle.joining.proofs.changes.append.Goals as goal

pub returns : goal.returns
returns c =
    let p = c.args.plan.now in
    let s = c.insert.ensures in
    record {
      vehicles = s.vehicles;
      stops = s.stops;
      form = s.form ∙ ap (encode p.n) (end-placing _ c.args.k c.args.stop (routes p) (ap length c.route-end.ensures));
    }
