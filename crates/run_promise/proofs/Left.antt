-- The plan that a run leaves, with rounds or without: it is in plan form, and what it costs is an exact number.
use mathlib.Core.Path.{◌≡◌, refl}
use mathlib.Core.Bool.{Bool, true, false, and-eq-true_iff}
use Prim.Native.Nat.{◌≤◌, ◌<◌}
use native.Mathlib.Omega.{arith}
use borrow.Author.Tests.{leb-true}
use lib.Dec.{leb}
use lib.ListN.{length}
use Rattle.model.specs.Lists.{concat, Once}
use Rattle.model.specs.Whole.{exact}
use Rattle.model.specs.Job.{Job, vehicle_count, stop_count}
use Rattle.model.specs.Plan.{Plan, encode, Lent}
use Rattle.model.specs.Cost.{cost}
use Rattle.model.specs.Nearest.{start_plan}
use Rattle.model.specs.Run.{Task, start_state, last_state}
use Rattle.model.specs.Calls.{has_rounds, rounds_if, final_state}
use Rattle.model.proofs.Counts.{Below, once-few}
use Rattle.model.proofs.PlanForm.{lent-encode}
use Rattle.model.proofs.Runs.{start-goes, kept}
use Rattle.nearest_neighbor.proofs.Turns.{start-routes, start-once, start-below}
use Rattle.run_promise.specs.Accepted.{Accepted}
use Rattle.run_promise.proofs.Limits.{cost-small}
use Rattle.run_promise.proofs.Theorem.{Good, round-facts}

-- a route for each vehicle, of the job's stops, none of them twice
pub record Formed (J : Job) (P : Plan) : Type 0 where
  pub routes : length P ≡ vehicle_count J
  pub once : Once (concat P)
  pub below : Below (stop_count J) (concat P)

pub formed-lent : (J : Job) (P : Plan) → Formed J P → Lent (vehicle_count J) (stop_count J) (encode (stop_count J) P)
formed-lent J P f = lent-encode (vehicle_count J) (stop_count J) P f.routes f.once f.below

pub start-formed : (J : Job) → Formed J (start_plan J)
start-formed J = record { routes = start-routes J; once = start-once J; below = start-below J }

module _ (T : Task) (A : Accepted T) where
  pub formed-exact : (P : Plan) → Formed T.job P → cost T.job P ≤ exact
  formed-exact P f =
      cost-small T.job A.short A.prices A.sizes.stops P
      (omega (arith, f.routes, once-few (stop_count T.job) (concat P) f.once f.below, A.sizes.vehicles, A.sizes.stops))

  left-if : (some : Bool) → has_rounds T.job ≡ some → Formed T.job (last_state (start_state T) (rounds_if some T)).plan
  unfolding rounds_if
  left-if false h = start-formed T.job
  left-if true h =
      let v : 0 < vehicle_count T.job =
      leb-true 1 (vehicle_count T.job) ((and-eq-true_iff (leb 1 (vehicle_count T.job)) (leb 2 (stop_count T.job))).0 h).0 in
      let M = round-facts T A v in
      let g = kept T (Good T A) M.keeps T.limit false (start_state T) (start-goes T) M.start in
      record { routes = g.routes; once = g.once; below = g.below }

  pub final-formed : Formed T.job (final_state T).plan
  final-formed = left-if (has_rounds T.job) refl
