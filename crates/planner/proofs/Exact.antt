-- What an accepted call costs is an exact number: at most 2 ^ 53, so the f64 that is handed out is that whole number.
use mathlib.Core.Path.{◌≡◌, refl}
use mathlib.Core.Bool.{Bool, true, false, cond, not, ◌&&◌, ◌||◌}
use mathlib.Core.List.{List, [], ◌∷◌}
use Prim.Native.Nat.{ℕ, zero, suc, ◌+◌, ◌≤◌}
use native.Mathlib.Nat.{le_refl, le_trans}
use native.Mathlib.Omega.{arith}
use lib.ListN.{length, replicate, length-replicate}
use Rattle.model.specs.Lists.{up_from, member}
use Rattle.model.specs.Whole.{exact}
use Rattle.model.specs.Job.{Job, vehicle_count, stop_count}
use Rattle.model.specs.Plan.{Plan, Route, placed}
use Rattle.model.specs.Cost.{cost}
use Rattle.model.specs.Rebuild.{better, choose, empty_plan, all_arrangements, exhaustive, reached, pruned}
use Rattle.model.specs.Refusals.{Arguments, Call, Weigh, StartPlan, TwoOpt, Rebuild, Exhaustive, Pruned, Solve, Arrive, Cancel, View, MoveStop, Roadworks, asked, refusal}
use Rattle.model.specs.Calls.{task_of, lent_plan, made}
use Rattle.model.proofs.Order.{better-asym, not-better, both}
use Rattle.model.proofs.Moves.{two_opt-le}
use Rattle.model.proofs.Rebuilds.{rebuild-cost}
use Rattle.model.proofs.PlanForm.{lent_length, lent_placed}
use Rattle.run_promise.proofs.Limits.{cost-small}
use Rattle.run_promise.proofs.Left.{formed-exact, final-formed}
use Rattle.call_refusals.proofs.Accepted.{priced-table, listed, affordable, lent}
use Rattle.planner.proofs.Solving.{task-accepted}

module _ (J : Job) where
  -- the choice never makes it dearer
  choose-le : (best : Plan) (Ps : List Plan) → cost J (choose J best Ps) ≤ cost J best
  choose-le best [] = le_refl (cost J best)
  choose-le best (P ∷ Ps) = le_trans (choose-le (cond (better J P best) P best) Ps) (go (better J P best) refl)
    where
      go : (t : Bool) → better J P best ≡ t → cost J (cond t P best) ≤ cost J best
      go true e = (not-better J best P (better-asym J P best e)).0
      go false e = le_refl (cost J best)

none-placed : (v : ℕ) → placed (replicate v []) ≡ 0
none-placed zero = refl
none-placed (suc v) = none-placed v

module _ (c : Call) (A : Arguments) (e : refusal c A ≡ 0) (priced : member 8 (asked c) ≡ true) where
  small : (P : Plan) → placed P + length P ≤ 80 → cost A.job P ≤ exact
  small P h = cost-small A.job ((listed c A e).limits (priced-table c priced)).short (affordable c A e priced) (listed c A e).sizes.stops P h

  lent-small : member 11 (asked c) ≡ true → cost A.job (lent_plan A) ≤ exact
  lent-small m =
      let l = lent c A e m in
      small (lent_plan A) (omega (arith, lent_length _ _ _ l, lent_placed _ _ _ l, (listed c A e).sizes.vehicles, (listed c A e).sizes.stops))

  empty-small : cost A.job (empty_plan A.job) ≤ exact
  empty-small =
      small (empty_plan A.job)
      (omega (arith, none-placed (vehicle_count A.job), length-replicate {A = Route} (vehicle_count A.job) [], (listed c A e).sizes.vehicles))

-- the calls that are given a set of vans, and answer no cost
abbrev holds_vans : Call → Bool
holds_vans c = member 15 (asked c)

-- the calls that are given the live stops, and count those alone
abbrev counts_live : Call → Bool
counts_live c = member 16 (asked c) || member 17 (asked c)

-- the calls that know the prices, and count every stop of the job
abbrev pub counts_all : Call → Bool
counts_all c = member 8 (asked c) && not (holds_vans c || counts_live c)

pub made-exact : (c : Call) (A : Arguments) → refusal c A ≡ 0 → counts_all c ≡ true → cost A.job (made c A) ≤ exact
unfolding made exhaustive pruned
made-exact Weigh A e p = lent-small Weigh A e refl refl
made-exact StartPlan A e p = both p refl
made-exact TwoOpt A e p = le_trans (two_opt-le A.job _ _ _) (lent-small TwoOpt A e refl refl)
made-exact Rebuild A e p = le_trans (rebuild-cost A.job _ _) (lent-small Rebuild A e refl refl)
made-exact Exhaustive A e p = le_trans (choose-le A.job (empty_plan A.job) (all_arrangements A.job)) (empty-small Exhaustive A e refl)
made-exact Pruned A e p =
    let J = A.job in
    le_trans (choose-le J (empty_plan J) (reached J (stop_count J) (empty_plan J) (up_from 0 (stop_count J)))) (empty-small Pruned A e refl)
made-exact Solve A e p = formed-exact (task_of A) (task-accepted A e) _ (final-formed (task_of A) (task-accepted A e))
made-exact Arrive A e p = both p refl
made-exact Cancel A e p = both p refl
made-exact View A e p = both p refl
made-exact MoveStop A e p = both p refl
made-exact Roadworks A e p = lent-small Roadworks A e refl refl
