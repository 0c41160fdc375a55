-- From what a call prints to what its sheet says.
use mathlib.Core.Path.{◌≡◌, refl, subst}
use Prim.Native.Nat.{ℕ}
use native.Mathlib.Omega.{arith}
use mathlib.Core.List.{List, [], ◌∷◌}
use lib.ListN.{length, get_or}
use Rattle.model.specs.Job.{Job}
use Rattle.model.specs.Run.{Task}
use Rattle.model.specs.Refusals.{Arguments, asking, Call, Weigh, StartPlan, TwoOpt, Rebuild, Exhaustive, Pruned, Solve, Arrive, Cancel, MoveStop, running, looking, tableless, lengthening}
use Rattle.model.specs.Calls.{cost_answer, rebuild_answer, start_answer, solve_answer, live_answer, view_answer, seen_left, move_answer, road_answer, plan_left, blank}
use Rattle.file_printing.specs.Printing.{Prints}
use Rattle.sheet_lines.specs.Printed.{printed_weight, printed_start, printed_weighed, printed_rebuilt, printed_solved, printed_changed, printed_viewed, printed_moved, printed_raised}
use Rattle.sheet_calls.specs.Changing.{changing}
use Rattle.sheet_calls.specs.Moving.{carrying}
use Rattle.sheet_calls.specs.Lengthening.{road_of}
use Rattle.sheet_answer.specs.Sheets.{call_of, priceless, printed_costs, printed_changes, printed_call}
use Rattle.sheet_answer.specs.Running.{JobPrints}

-- the two stops of a pair
pub pair-of : (given : List ℕ) → length given ≡ 2 → get_or given 0 0 ∷ get_or given 1 0 ∷ [] ≡ given
pair-of [] e = absurd (omega arith)
pair-of (x ∷ []) e = absurd (omega arith)
pair-of (x ∷ y ∷ []) e = refl
pair-of (x ∷ y ∷ z ∷ zs) e = absurd (omega arith)

module _ (old new : List ℕ) (r : ℕ) where
  -- a plan that is left is the definition's
  left-printed : (c : Call) (A : Arguments) (left : List ℕ) → left ≡ plan_left c A
      → Prints old new r (printed_weighed (cost_answer c A) left) → Prints old new r (printed_costs c A)
  left-printed c A left e p = subst (λ l. Prints old new r (printed_weighed (cost_answer c A) l)) e p

  change-printed : (c : Call) (A : Arguments) (left : List ℕ) → left ≡ plan_left c A
      → Prints old new r (printed_changed (live_answer c A) left) → Prints old new r (printed_changes c A)
  change-printed c A left e p = subst (λ l. Prints old new r (printed_changed (live_answer c A) l)) e p

  module _ (call : ℕ) (given plan left : List ℕ) where
    module _ (T : Task) where
      pub ran-weigh : call ≡ 1 → Prints old new r (printed_weight (cost_answer Weigh (asking T.job plan [])))
          → Prints old new r (printed_call (call_of call) given plan T)
      unfolding printed_call
      ran-weigh e p = rw e p

      pub ran-start : call ≡ 2 → left ≡ plan_left StartPlan (asking (priceless T.job) plan [])
          → Prints old new r (printed_start (start_answer (asking (priceless T.job) plan [])) left)
          → Prints old new r (printed_call (call_of call) given plan T)
      unfolding printed_call
      ran-start e l p = rw e (subst (λ x. Prints old new r (printed_start (start_answer (asking (priceless T.job) plan [])) x)) l p)

      pub ran-solve : call ≡ 7 → left ≡ plan_left Solve (running T.job T.smoothing T.limit T.draws plan)
          → Prints old new r (printed_solved (solve_answer (running T.job T.smoothing T.limit T.draws plan)) left)
          → Prints old new r (printed_call (call_of call) given plan T)
      unfolding printed_call
      ran-solve e l p =
          rw e (subst (λ x. Prints old new r (printed_solved (solve_answer (running T.job T.smoothing T.limit T.draws plan)) x)) l p)

    module _ (J : Job) where
      pub ran-two-opt : call ≡ 3 → length given ≡ 2 → left ≡ plan_left TwoOpt (asking J plan (get_or given 0 0 ∷ get_or given 1 0 ∷ []))
          → Prints old new r (printed_weighed (cost_answer TwoOpt (asking J plan (get_or given 0 0 ∷ get_or given 1 0 ∷ []))) left)
          → JobPrints call J given plan old new r
      unfolding printed_call
      ran-two-opt e two l p T j =
          rw (e, j)
          (subst (λ x. Prints old new r (printed_costs TwoOpt (asking J plan x))) (pair-of given two)
          (left-printed TwoOpt (asking J plan (get_or given 0 0 ∷ get_or given 1 0 ∷ [])) left l p))

      pub ran-rebuild : call ≡ 4 → left ≡ plan_left Rebuild (asking J plan given)
          → Prints old new r (printed_rebuilt (rebuild_answer (asking J plan given)) left) → JobPrints call J given plan old new r
      unfolding printed_call
      ran-rebuild e l p T j = rw (e, j) (subst (λ x. Prints old new r (printed_rebuilt (rebuild_answer (asking J plan given)) x)) l p)

      pub ran-exhaustive : call ≡ 5 → left ≡ plan_left Exhaustive (asking J plan [])
          → Prints old new r (printed_weighed (cost_answer Exhaustive (asking J plan [])) left) → JobPrints call J given plan old new r
      unfolding printed_call
      ran-exhaustive e l p T j = rw (e, j) (left-printed Exhaustive (asking J plan []) left l p)

      pub ran-pruned : call ≡ 6 → left ≡ plan_left Pruned (asking J plan [])
          → Prints old new r (printed_weighed (cost_answer Pruned (asking J plan [])) left) → JobPrints call J given plan old new r
      unfolding printed_call
      ran-pruned e l p T j = rw (e, j) (left-printed Pruned (asking J plan []) left l p)

      pub ran-arrive : call ≡ 8 → left ≡ plan_left Arrive (changing J plan given)
          → Prints old new r (printed_changed (live_answer Arrive (changing J plan given)) left) → JobPrints call J given plan old new r
      unfolding printed_call
      ran-arrive e l p T j = rw (e, j) (change-printed Arrive (changing J plan given) left l p)

      pub ran-cancel : call ≡ 9 → left ≡ plan_left Cancel (changing J plan given)
          → Prints old new r (printed_changed (live_answer Cancel (changing J plan given)) left) → JobPrints call J given plan old new r
      unfolding printed_call
      ran-cancel e l p T j = rw (e, j) (change-printed Cancel (changing J plan given) left l p)

      pub ran-view : (seen : List ℕ) → call ≡ 10 → seen ≡ blank J → left ≡ seen_left (looking (tableless J.vehicles J.stops) plan (get_or given 0 0) seen)
          → Prints old new r (printed_viewed (view_answer (looking (tableless J.vehicles J.stops) plan (get_or given 0 0) seen)) left)
          → JobPrints call J given plan old new r
      unfolding printed_call
      ran-view seen e s l p T j =
          let sees = looking (tableless J.vehicles J.stops) plan (get_or given 0 0) in
          rw (e, j)
          (subst (λ x. Prints old new r (printed_viewed (view_answer (sees x)) (seen_left (sees x)))) s
          (subst (λ x. Prints old new r (printed_viewed (view_answer (sees seen)) x)) l p))

      pub ran_move : call ≡ 11 → left ≡ plan_left MoveStop (carrying J plan given)
          → Prints old new r (printed_moved (move_answer (carrying J plan given)) left) → JobPrints call J given plan old new r
      unfolding printed_call
      ran_move e l p T j = rw (e, j) (subst (λ x. Prints old new r (printed_moved (move_answer (carrying J plan given)) x)) l p)

      pub ran-roadworks : call ≡ 12 → Prints old new r (printed_raised (road_answer (lengthening J plan (road_of given))))
          → JobPrints call J given plan old new r
      unfolding printed_call
      ran-roadworks e p T j = rw (e, j) p
