-- The best arrangement of the regions around the picks is the rebuild, and the counts are its.
use Prim.Native.Nat.{ℕ, ◌≤◌}
use mathlib.Core.Path.{◌≡◌, ap, ◌∙◌}
use mathlib.Core.List.{List}
use lib.ListN.{length}
use Rattle.model.specs.declared.Region.{Region}
use Rattle.model.specs.Region.{regions}
use Rattle.model.specs.Rebuild.{rebuild, begun, completed}
use Rattle.model.specs.declared.Walk.{Walk}
use Rattle.distance.specs.declared.tariff.Tariff.{Tariff}
use Rattle.solution.specs.declared.plan.Plan.{Plan}
use Rattle.solution.specs.Held.{routes}
use Rattle.rebuild_arrange.specs.Arranged.{Arrangeable, Arranged}
use Rattle.rebuild.specs.Leaves.{Leaves}
use Rattle.rebuild.proofs.Regions.{regions-gapped, regions-drained}

module _ (old : Plan) (picks : List ℕ) (gs : List Region) (e : gs ≡ regions (routes old) picks) where
  pub arrangeable : length gs ≤ 2 → Arrangeable old gs
  arrangeable few = record { gapped = regions-gapped old picks gs few e; few = regions-drained old picks gs few e }

  pub leaves : (t : Tariff) (new : Plan) (r : Walk) → Arranged t old gs new r → Leaves t old picks new r
  unfolding rebuild
  leaves t new r A =
      record {
        vehicles = A.vehicles;
        stops = A.stops;
        costs = A.costs;
        plan = λ J F. rw e at (A.best J F);
        cost = λ J F. rw e at (A.cost J F);
        begun = A.started ∙ ap (begun (routes old)) e;
        completed = A.met ∙ ap (completed (routes old)) e;
      }
