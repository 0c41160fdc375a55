-- What an answer of `solve` says of the run.
use mathlib.Core.Path.{◌≡◌, refl, sym, ap, ◌∙◌, subst}
use mathlib.Core.List.{List}
use Prim.Native.Nat.{ℕ, zero, suc}
use native.Mathlib.Omega.{arith}
use Rattle.model.specs.declared.Totals.{Totals}
use Rattle.std.specs.Prelude.{Ok}
use Rattle.model.specs.Whole.{IsWhole}
use Rattle.model.specs.Job.{vehicle_count, stop_count}
use Rattle.model.specs.Plan.{encode, decode, Lent, Sizes}
use Rattle.model.specs.Refusals.{Arguments, Solve, refusal}
use Rattle.model.specs.Calls.{task_of, final_state, totals, solved, solve_answer, made, left_by, plan_left}
use Rattle.model.proofs.PlanForm.{decode-encode}
use Rattle.run_promise.proofs.Left.{formed-lent, start-formed, formed-exact, final-formed}
use Rattle.planner.proofs.Solving.{task-accepted}

some-ran : (x : ℕ) (t u : Totals) → Ok t ≡ solved x u → (x ≡ 0) × (t ≡ u)
some-ran zero t u e = (refl, cc)
some-ran (suc x) t u e = let z : ◌≡◌ {A = ℕ} 0 1 = cc in absurd (omega arith)

module _ (A : Arguments) (t : Totals) (e : Ok t ≡ solve_answer A) where
  ran : (refusal Solve A ≡ 0) × (t ≡ totals (task_of A))
  unfolding solve_answer
  ran = some-ran (refusal Solve A) t (totals (task_of A)) e

  ran-left : (plan : List ℕ) → plan ≡ plan_left Solve A → plan ≡ encode (stop_count A.job) (final_state (task_of A)).plan
  unfolding plan_left made
  ran-left plan h = h ∙ ap (λ (y : ℕ). left_by y A (made Solve A)) ran.0

  pub ran-priced : IsWhole t.start × IsWhole t.end
  unfolding totals
  ran-priced =
      let T = task_of A in
      let a = task-accepted A ran.0 in
      subst (λ u. IsWhole u.start × IsWhole u.end) (sym ran.1) ((_, formed-exact T a _ (start-formed T.job), refl), (_, formed-exact T a _ (final-formed T a), refl))

  pub ran-sizes : Sizes (vehicle_count A.job) (stop_count A.job)
  ran-sizes = (task-accepted A ran.0).sizes

  module _ (plan : List ℕ) (h : plan ≡ plan_left Solve A) where
    pub ran-lent : Lent (vehicle_count A.job) (stop_count A.job) plan
    ran-lent =
        subst (Lent (vehicle_count A.job) (stop_count A.job)) (sym (ran-left plan h))
        (formed-lent A.job _ (final-formed (task_of A) (task-accepted A ran.0)))

    pub ran-decode : decode (vehicle_count A.job) plan ≡ (final_state (task_of A)).plan
    ran-decode =
        ap (decode (vehicle_count A.job)) (ran-left plan h)
        ∙ decode-encode (stop_count A.job) _ (vehicle_count A.job) (final-formed (task_of A) (task-accepted A ran.0)).routes
