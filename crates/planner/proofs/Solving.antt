-- What `solve` answers, and what is known of the task where it is accepted.
use mathlib.Core.Path.{◌≡◌, refl, sym, ap, ◌∙◌}
use Prim.Native.Nat.{ℕ}
use Rattle.model.specs.declared.Totals.{Totals}
use Rattle.std.specs.Prelude.{Ok, Err}
use Rattle.model.specs.declared.refusal.Refusal.{Refusal}
use Rattle.model.specs.Numbers.{number_of}
use Rattle.model.proofs.Numbers.{err-answer}
use Rattle.model.specs.Refusals.{Arguments, Solve, refusal}
use Rattle.model.specs.Calls.{task_of, totals, solved, solve_answer}
use Rattle.run_promise.specs.Accepted.{Accepted}
use Rattle.call_refusals.proofs.Accepted.{listed, affordable, smooth}

module _ (A : Arguments) where
  pub solve-refused : (e : Refusal) → number_of e ≡ refusal Solve A → Err e ≡ solve_answer A
  unfolding solve_answer
  solve-refused e h = err-answer e (totals (task_of A)) ∙ ap (λ (y : ℕ). solved y (totals (task_of A))) h

  pub solve-accepted : (t : Totals) → refusal Solve A ≡ 0 → t ≡ totals (task_of A) → Ok t ≡ solve_answer A
  unfolding solve_answer
  solve-accepted t e h = ap Ok h ∙ ap (λ (y : ℕ). solved y (totals (task_of A))) (sym e)

  pub task-accepted : refusal Solve A ≡ 0 → Accepted (task_of A)
  task-accepted e =
      let l = listed Solve A e in
      let s = smooth Solve A e refl in
      record { sizes = l.sizes; short = (l.limits refl).short; prices = affordable Solve A e refl; smooth = s.0; not_too_smooth = s.1 }
