-- Which tasks the promise speaks of: those that no test of a call's arguments refuses. What the tests give of each argument stands here; that
-- numbers of locations are below l, and that there is a draw, no part of the promise needs.
use Rattle.std.specs.Prelude.{ℕ, ◌≤◌, get_or}
use Rattle.model.specs.Job.{vehicle_count, stop_count}
use Rattle.model.specs.Plan.{Sizes}
use Rattle.model.specs.Legs.{Affordable}
use Rattle.model.specs.Run.{Task}

pub record Accepted (T : Task) : Type 0 where
  pub sizes : Sizes (vehicle_count T.job) (stop_count T.job)
  pub short : (i : ℕ) → get_or T.job.distances i 0 ≤ 200000
  pub prices : Affordable T.job.prices
  pub smooth : 1 ≤ T.smoothing
  pub not_too_smooth : T.smoothing ≤ 1000
