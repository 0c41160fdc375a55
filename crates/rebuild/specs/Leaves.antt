-- What a rebuild leaves, and what its walk counts.
use Rattle.std.specs.Prelude.{◌≡◌, ℕ, List}
use Rattle.model.specs.Whole.{whole}
use Rattle.model.specs.Job.{Job}
use Rattle.model.specs.Cost.{cost}
use Rattle.model.specs.Region.{regions}
use Rattle.model.specs.Rebuild.{rebuild, begun, completed}
use Rattle.model.specs.declared.Walk.{Walk}
use Rattle.distance.specs.declared.tariff.Tariff.{Tariff}
use Rattle.solution.specs.declared.plan.Plan.{Plan}
use Rattle.solution.specs.Held.{routes, Becomes}
use Rattle.delivery.specs.Held.{IsJobOf, IsCost}

-- new is the plan old rebuilt around the picks, for every job that fits; r has its cost, how many fillings of the first region were begun, and
-- how many arrangements were completed
pub record Leaves (t : Tariff) (old : Plan) (picks : List ℕ) (new : Plan) (r : Walk) : Type 0 where
  pub vehicles : new.v ≡ old.v
  pub stops : new.n ≡ old.n
  pub costs : IsCost t new r.cost
  pub plan : (J : Job) → IsJobOf J t old → Becomes old new (rebuild J (routes old) picks)
  pub cost : (J : Job) → IsJobOf J t old → r.cost ≡ whole (cost J (rebuild J (routes old) picks))
  pub begun : r.begun ≡ begun (routes old) (regions (routes old) picks)
  pub completed : r.completed ≡ completed (routes old) (regions (routes old) picks)
