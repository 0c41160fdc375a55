-- Where the rounds of a run end, and what a run is given and answers.
use Rattle.std.specs.Prelude.{◌≡◌, ℕ, ◌≤◌, ◌<◌, false, length}
use Rattle.model.specs.declared.Totals.{Totals}
use Rattle.model.specs.declared.job.Settings.{Settings}
use Rattle.model.specs.Job.{Job}
use Rattle.model.specs.Plan.{Sizes}
use Rattle.model.specs.Legs.{Fits}
use Rattle.model.specs.Run.{Task, start_state, rounds, last_state, task_for}
use Rattle.model.specs.Calls.{final_state, totals}
use Rattle.distance.specs.declared.tariff.Tariff.{Tariff}
use Rattle.solution.specs.declared.plan.Plan.{Plan}
use Rattle.solution.specs.Held.{Holds}
use Rattle.delivery.specs.Held.{IsJobOf}
use Rattle.run_round.specs.declared.Progress.{Progress}
use Rattle.run_round.specs.Standing.{state_of, Standing}

-- the task of running a job with these settings
abbrev pub task_by : Job → Settings → Task
task_by J s = task_for J s.smoothing s.limit s.draws.now

-- where the rounds from the start plan on end
pub record Ended (t : Tariff) (s : Settings) (old new : Plan) (r : Progress) : Type 0 where
  pub vehicles : new.v ≡ old.v
  pub stops : new.n ≡ old.n
  pub stands : Standing t new r
  pub is : (J : Job) → IsJobOf J t old → let T = task_by J s in
      state_of new r ≡ last_state (start_state T) (rounds s.limit false T (start_state T))

-- what a run is given beside its tariff
pub record Runnable (v n : ℕ) (s : Settings) : Type 0 where
  pub sizes : Sizes v n
  pub some : 0 < length s.draws.now
  pub smooth : 1 ≤ s.smoothing

-- for every job that fits: the answer is the run's, and the plan is the one that the run leaves
abbrev pub Ran : Tariff → ℕ → ℕ → Settings → Plan → Totals → Type 0
Ran t v n s plan r =
    (J : Job) → Fits J t.legs.table v n t.prices → let T = task_by J s in (r ≡ totals T) × Holds v n (final_state T).plan plan
