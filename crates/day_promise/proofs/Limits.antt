-- What a job within limits has.
use Prim.Native.Nat.{ℕ, ◌≤◌, ◌<◌}
use native.Mathlib.Omega.{arith}
use mathlib.Core.Path.{◌≡◌}
use lib.ListN.{length}
use Rattle.model.specs.Lists.{concat, Once}
use Rattle.model.specs.Whole.{exact}
use Rattle.model.specs.Job.{Job, vehicle_count, stop_count}
use Rattle.model.specs.Plan.{Plan}
use Rattle.model.specs.Live.{live_cost}
use Rattle.model.specs.Days.{WithinLimits}
use Rattle.model.proofs.Counts.{Below, once-few}
use Rattle.distance.specs.Table.{InLimits}
use Rattle.distance.proofs.Limits.{in-limits}
use Rattle.delivery.proofs.Live.{live-exact}
use Rattle.call_refusals.proofs.Accepted.{within-limits}

module _ (J : Job) (W : WithinLimits J) where
  limits : InLimits J.vehicles J.stops J.locations J.distances
  limits = in-limits J.vehicles J.stops J.locations J.distances W.vehicles W.stops W.table W.locations W.distances

  pub few-stops : stop_count J ≤ 64
  few-stops = limits.stops

  -- the cost of a plan of it is below 2 ^ 53
  pub formed-exact : (live : ℕ) (P : Plan) → length P ≡ vehicle_count J → Once (concat P) → Below (stop_count J) (concat P) → live_cost J live P < exact
  formed-exact live P v o b =
      live-exact J limits.short (within-limits J.prices W.prices) live P (omega (arith, once-few (stop_count J) (concat P) o b, limits.vehicles, limits.stops))
