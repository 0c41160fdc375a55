use mathlib.Core.Path.{◌∙◌, ap}
use native.Mathlib.Omega.{arith}
use Rattle.solution.specs.Held.{numbers_of, routes}
use Rattle.file_columns.specs.Put.{written}
use Rattle.file_printing.proofs.Pieces.{vehicle-printed, vehicle-small, dash-printed, routes-few}
use Rattle.file_printing.proofs.put_vehicle.Goals as goal

pub put_number-requires : goal.put_number-requires
put_number-requires c =
    let found = c.find in
    let p = c.args.plan.now in
    record {
      some = omega arith;
      few = omega arith;
      fits = omega (arith, routes-few p.v (numbers_of p), vehicle-small (routes p) c.args.stop found.result found.ensures _ c.in-Some.is, p.sizes.vehicles);
      room = c.requires;
    }

pub returns-in-Some : goal.returns-in-Some
returns-in-Some c =
    let found = c.find in
    c.put_number.ensures ∙ ap (written _ _) (vehicle-printed _ _ found.result found.ensures _ c.in-Some.is)

pub returns-in-None : goal.returns-in-None
returns-in-None c =
    let found = c.find in
    c.put_text.ensures ∙ ap (written _ _) (dash-printed _ _ found.result found.ensures c.in-None.is)
