-- What the best arrangement of a plan's regions is.
use Rattle.std.specs.Prelude.{◌≡◌, ◌≤◌, List, length}
use Rattle.model.specs.declared.Region.{Region}
use Rattle.model.specs.declared.Walk.{Walk}
use Rattle.model.specs.Whole.{whole}
use Rattle.model.specs.Job.{Job}
use Rattle.model.specs.Region.{drained}
use Rattle.model.specs.Cost.{cost}
use Rattle.model.specs.Rebuild.{arrangements, choose, begun, completed}
use Rattle.distance.specs.declared.tariff.Tariff.{Tariff}
use Rattle.solution.specs.declared.plan.Plan.{Plan}
use Rattle.solution.specs.Held.{routes, Becomes}
use Rattle.delivery.specs.Held.{IsJobOf, IsCost}
use Rattle.rebuild_words.specs.Gaps.{Gapped}

-- up to three regions of a plan, which drain at most seven stops
pub record Arrangeable (p : Plan) (regions : List Region) : Type 0 where
  pub gapped : Gapped p regions
  pub few : length (drained (routes p) regions) ≤ 7

-- The arrangement that the choice prefers, for every job that fits, what it costs, how many fillings of the first region were begun, and
-- how many arrangements were completed.
pub record Arranged (t : Tariff) (old : Plan) (regions : List Region) (new : Plan) (r : Walk) : Type 0 where
  pub vehicles : new.v ≡ old.v
  pub stops : new.n ≡ old.n
  pub costs : IsCost t new r.cost
  pub best : (J : Job) → IsJobOf J t old → Becomes old new (choose J (routes old) (arrangements (routes old) regions))
  pub cost : (J : Job) → IsJobOf J t old → r.cost ≡ whole (cost J (choose J (routes old) (arrangements (routes old) regions)))
  pub started : r.begun ≡ begun (routes old) regions
  pub met : r.completed ≡ completed (routes old) regions
