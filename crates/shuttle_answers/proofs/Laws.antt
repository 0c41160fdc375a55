-- A task that is run and printed.
use mathlib.Core.Path.{◌≡◌, sym, ap, ◌∙◌, subst}
use mathlib.Core.List.{List}
use Prim.Native.Nat.{ℕ, ◌+◌, ◌/◌}
use lib.ListN.{length, take, replicate}
use Rattle.std.proofs.lemmas.List.{take-replicate}
use Rattle.model.specs.declared.Totals.{Totals}
use Rattle.model.specs.declared.refusal.Refusal.{Refusal}
use Rattle.model.specs.Numbers.{number_of}
use Rattle.std.specs.Prelude.{Result, Ok, Err}
use Rattle.model.specs.Job.{Job, vehicle_count, stop_count}
use Rattle.model.specs.Plan as form
use Rattle.model.specs.Plan.{decode}
use Rattle.model.specs.Run.{Task, task_for}
use Rattle.model.specs.Refusals.{Solve, running}
use Rattle.model.specs.Calls.{final_state, solve_answer, plan_left, blank, run_of}
use Rattle.model.specs.File.{printed, printed_refusal, printed_task}
use Rattle.model.proofs.Tasks.{accepted-once}
use Rattle.planner.proofs.Ran.{ran-decode}
use Rattle.solution.specs.declared.plan.Plan.{Plan}
use Rattle.solution.specs.Held.{numbers_of, routes}
use Rattle.solution.proofs.Holding.{read-routes}
use Rattle.file_job.specs.declared.task.Task as file
use Rattle.file_job.specs.Reading.{task_of, ReadWhole}
use Rattle.file_job.proofs.Held.{places-few}
use Rattle.file_printing.proofs.Pieces.{prints-within}
use Rattle.file_printing.specs.Printing.{Prints}
use Rattle.shuttle_answers.specs.Answers.{Answers, Printed}

-- ---- what is printed of a run

-- a plan is lent for a job that is a task's, so that it is small
pub lent-blank : (U : file.Task) (J : Job) → J ≡ (task_of U).job → take (length J.vehicles / 2 + length J.stops) (replicate 80 0) ≡ blank J
lent-blank U J same = take-replicate (length J.vehicles / 2 + length J.stops) 80 0 (places-few U J same)

-- a run of a task that is lent a blank plan
module _ (U : file.Task) (J : Job) (c limit : ℕ) (draws lent : List ℕ) (same : J ≡ (task_of U).job)
    (rest : (c ≡ (task_of U).smoothing) × (limit ≡ (task_of U).limit) × (draws ≡ (task_of U).draws))
    (b : lent ≡ blank J) (a : Result Totals Refusal) (e : a ≡ solve_answer (running J c limit draws lent))
    (old new : List ℕ) (r : ℕ) where
  abbrev T : Task
  T = task_for J c limit draws

  whole : T ≡ task_of U
  whole = λ i. task_for (same i) (rest.0 i) (rest.1 i) (rest.2 i)

  -- its answer is that of the task
  task-answer : a ≡ solve_answer (run_of T)
  task-answer = e ∙ ap (λ (l : List ℕ). solve_answer (running J c limit draws l)) b

  pub refused-printed : (why : Refusal) → a ≡ Err why → Prints old new r (printed_refusal (number_of why)) → Prints old new r (printed_task (task_of U))
  unfolding printed_task printed
  refused-printed why h p =
      subst (λ X. Prints old new r (printed_task X)) whole
      (subst (λ (x : Result Totals Refusal). Prints old new r (printed (stop_count J) (final_state T).plan x)) (sym h ∙ task-answer) p)

  left-printed : (t : Totals) (plan : List ℕ) → a ≡ Ok t → plan ≡ plan_left Solve (running J c limit draws lent)
      → Prints old new r (printed (stop_count J) (decode (vehicle_count J) plan) (Ok t)) → Prints old new r (printed_task T)
  unfolding printed_task
  left-printed t plan h l p =
      subst (λ (x : Result Totals Refusal). Prints old new r (printed (stop_count J) (final_state T).plan x)) (sym h ∙ task-answer)
      (subst (λ (P : form.Plan). Prints old new r (printed (stop_count J) P (Ok t))) (ran-decode (running J c limit draws lent) t (sym h ∙ e) plan l) p)

  pub run-printed : (t : Totals) (plan : List ℕ) → a ≡ Ok t → plan ≡ plan_left Solve (running J c limit draws lent)
      → (p : Plan) → p.v ≡ vehicle_count J → p.n ≡ stop_count J → numbers_of p ≡ plan
      → Prints old new r (printed p.n (routes p) (Ok t)) → Prints old new r (printed_task (task_of U))
  run-printed t plan h l p ev en ex prints =
      subst (λ X. Prints old new r (printed_task X)) whole
      (left-printed t plan h l
      (subst (λ (P : form.Plan). Prints old new r (printed (stop_count J) P (Ok t))) (read-routes (vehicle_count J) plan p ev ex)
      (subst (λ n. Prints old new r (printed n (routes p) (Ok t))) en prints)))

-- ---- a file that is read

pub file-answers : (bytes : List ℕ) (a : Result file.Task Refusal) → ReadWhole bytes a → (t : file.Task) → a ≡ Ok t
    → (out printed : List ℕ) (r : ℕ) → length printed ≡ length out → Prints out printed r (printed_task (task_of t)) → Answers bytes out printed r
file-answers bytes a read t e out printed r l p =
    let whole : ReadWhole bytes (Ok t) = rw e at read in
    record {
      accepted = λ T h. subst (λ U. Prints out printed r (printed_task U)) (accepted-once bytes (task_of t) T whole.0 h) p;
      within = prints-within out printed r (printed_task (task_of t)) p l;
      refused = λ no. absurd (no (task_of t) whole.0);
    }

pub no-file-answers : (bytes : List ℕ) (a : Result file.Task Refusal) → ReadWhole bytes a → (why : Refusal) → a ≡ Err why
    → (out printed : List ℕ) (r : ℕ) → length printed ≡ length out → Prints out printed r (printed_refusal 14) → Answers bytes out printed r
no-file-answers bytes a read why e out printed r l p =
    let no : ReadWhole bytes (Err why) = rw e at read in
    record { accepted = λ T t. absurd (no.1 T t); within = prints-within out printed r (printed_refusal 14) p l; refused = λ _. p }

-- where the answer of some bytes is printed, as many bytes are
pub answers-printed : (bytes old new : List ℕ) (r : ℕ) → Answers bytes old new r → Printed r
answers-printed bytes old new r A = record { bytes = bytes; accepted = λ T h. (A.accepted T h).count; refused = λ none. (A.refused none).count }
