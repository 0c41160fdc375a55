-- Specification, 13: what is promised of every accepted run with a vehicle and two or more stops, whatever its draws are.
use mathlib.Core.Path.{◌≡◌, ◌∙◌}
use mathlib.Core.Bool.{true, and-eq-true_iff}
use mathlib.Core.List.{List}
use Prim.Native.Nat.{ℕ, ◌≤◌, ◌<◌}
use native.Mathlib.Nat.{le_trans}
use native.Mathlib.Omega.{arith}
use borrow.Author.Tests.{leb-true}
use lib.Dec.{leb}
use lib.ListN.{length}
use Rattle.model.specs.Lists.{concat, Once}
use Rattle.model.specs.Job.{Job, vehicle_count, stop_count}
use Rattle.model.specs.Plan.{Plan}
use Rattle.model.specs.Nearest.{start_plan}
use Rattle.model.specs.Rebuild.{rebuild}
use Rattle.model.specs.Run.{Task, State, round_from}
use Rattle.model.specs.Calls.{has_rounds, rounds_of, final_state, totals}
use Rattle.model.specs.Promise.{sufficient, Promise}
use Rattle.model.proofs.Counts.{Below, once-few}
use Rattle.model.proofs.Moves.{Moved, moved-once, two_opt_pass-moved, two_opt_pass-le}
use Rattle.model.proofs.Rebuilds.{rebuild-length, rebuild-cost, rebuild-once, rebuild-below, rebuild-unbeaten}
use Rattle.model.proofs.Sufficient.{Complete, rebuild-complete}
use Rattle.model.proofs.Promised.{RoundFacts}
use Rattle.settle.proofs.Runs.{promised}
use Rattle.nearest_neighbor.proofs.Turns.{start-routes, start-placed, start-beyond, start-once, start-below}
use Rattle.run_promise.specs.Accepted.{Accepted}
use Rattle.run_promise.proofs.Limits.{cost-small}

-- what every round keeps of the plan: a route for each vehicle, of the job's stops, none of them twice, and with a sufficient missed price all of them
pub record GoodPlan (J : Job) (P : Plan) : Type 0 where
  pub routes : length P ≡ vehicle_count J
  pub once : Once (concat P)
  pub below : Below (stop_count J) (concat P)
  pub all : sufficient J ≤ J.prices.missed → Complete J P

module _ (J : Job) where
  start-good : 0 < vehicle_count J → GoodPlan J (start_plan J)
  start-good h =
      record {
        routes = start-routes J;
        once = start-once J;
        below = start-below J;
        all = λ _. record { each = start-placed J h; none = start-beyond J };
      }

  -- stops that are moved
  moved-good : (P X : Plan) → Moved P X → GoodPlan J P → GoodPlan J X
  moved-good P X m g =
      record {
        routes = m.routes ∙ g.routes;
        once = moved-once P X m g.once;
        below = λ s h. g.below s (omega (arith, m.stops s));
        all = λ e. record { each = λ s h. m.stops s ∙ (g.all e).each s h; none = λ s h. m.stops s ∙ (g.all e).none s h };
      }

  -- regions that are rebuilt
  rebuilt-good : (P : Plan) (picks : List ℕ) → GoodPlan J P → GoodPlan J (rebuild J P picks)
  rebuilt-good P picks g =
      record {
        routes = rebuild-length J P picks ∙ g.routes;
        once = rebuild-once J P picks g.once;
        below = rebuild-below J P picks (stop_count J) g.below;
        all = λ e. rebuild-complete J P (g.all e) picks e;
      }

module _ (T : Task) (A : Accepted T) where
  abbrev pub Good : State → Type 0
  Good s = GoodPlan T.job s.plan

  -- what the two-opt pass of a round leaves
  passed : (s : State) → Good s → GoodPlan T.job (round_from T s).improved
  unfolding round_from
  passed s g = moved-good T.job s.plan _ (two_opt_pass-moved T.job s.plan _) g

  pub round-facts : 0 < vehicle_count T.job → RoundFacts T Good
  unfolding round_from
  round-facts h =
      record {
        start = start-good T.job h;
        keeps = λ s e g. rebuilt-good T.job _ _ (passed s g);
        no_dearer = λ s g. le_trans (rebuild-cost T.job _ _) (two_opt_pass-le T.job s.plan _);
        exactly =
            λ s g.
            cost-small T.job A.short A.prices A.sizes.stops s.plan
            (omega (arith, g.routes, once-few (stop_count T.job) (concat s.plan) g.once g.below, A.sizes.vehicles, A.sizes.stops));
        once = λ s g. g.once;
        all_placed = λ e s g x l. (g.all e).each x l;
        unbeaten = λ s g. rebuild-unbeaten T.job _ _ (passed s g).once;
      }

  pub promise : has_rounds T.job ≡ true → Promise T (rounds_of T) (totals T) (final_state T).plan
  promise h =
      let v = leb-true 1 (vehicle_count T.job) ((and-eq-true_iff (leb 1 (vehicle_count T.job)) (leb 2 (stop_count T.job))).0 h).0 in
      promised T Good (round-facts v) A.smooth A.not_too_smooth h
