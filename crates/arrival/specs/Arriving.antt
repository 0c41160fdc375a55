-- What is asked of a plan, a set of live stops and a stop that arrives.
use Rattle.std.specs.Prelude.{◌≡◌, ℕ, ◌<◌, false}
use Rattle.model.specs.StopSet.{contains}
use Rattle.model.specs.Live.{Covers}
use Rattle.solution.specs.declared.plan.Plan.{Plan}
use Rattle.solution.specs.Held.{routes}

-- a live set that covers the plan, and a stop below n that is not live yet
pub record Arriving (p : Plan) (live stop : ℕ) : Type 0 where
  pub covers : Covers p.n live (routes p)
  pub below : stop < p.n
  pub absent : contains stop live ≡ false
