-- What the calls say: the number and the values of an answer are the definition's whole numbers, and `solve` keeps the promise about runs.
use mathlib.Core.Path.{◌≡◌, refl, sym, ap, ◌∙◌}
use mathlib.Core.Bool.{true}
use mathlib.Core.List.{List, [], ◌∷◌}
use Prim.Native.Nat.{ℕ, zero, suc, ◌≤◌}
use lib.Ieee.{Float}
use Rattle.model.specs.declared.Totals.{Totals}
use Rattle.model.specs.declared.refusal.Refusal.{Refusal}
use Rattle.model.specs.declared.Walk.{Walk}
use Rattle.std.specs.Prelude.{Result, Ok, Err}
use Rattle.model.specs.Numbers.{number_of}
use Rattle.model.proofs.Numbers.{IsNumber, err-answer, refusal-number}
use Rattle.model.specs.Whole.{whole, exact, amount}
use Rattle.model.specs.Job.{stop_count}
use Rattle.model.specs.Plan.{encode}
use Rattle.model.specs.Cost.{cost}
use Rattle.model.specs.Nearest.{start_plan}
use Rattle.model.specs.Refusals.{Arguments, Call, StartPlan, Rebuild, Solve, refusal}
use Rattle.model.specs.Calls.{task_of, rounds_of, final_state, totals, made, left_by, plan_left, weighed, rebuilt, written, solved, begun_by, completed_by, cost_answer, rebuild_answer, start_answer, solve_answer, said_by_weighed, said_by_rebuilt, said_by_written, said_by_solved, saying, run_values, cost_said, rebuild_said, start_said, solve_said, Weighs, Rebuilds, Writes}
use Rattle.whole.proofs.Laws.{amount-is}
use Rattle.run_promise.proofs.Theorem.{promise}
use Rattle.run_promise.proofs.Left.{start-formed, formed-exact, final-formed}
use Rattle.call_refusals.proofs.Answers.{refused, accepted, left-alone, left-new, start-refused, start-accepted}
use Rattle.planner.specs.Kept.{Keeps, Solves}
use Rattle.planner.proofs.Solving.{solve-refused, solve-accepted, task-accepted}
use Rattle.planner.proofs.Exact.{counts_all, made-exact}

-- ---- a cost

said-cost : (x k : ℕ) → IsNumber x → (x ≡ 0 → k ≤ exact) → said_by_weighed (weighed x k) ≡ saying x (k ∷ [])
unfolding said_by_weighed
said-cost zero k n h = ap (λ y. saying 0 (y ∷ [])) (amount-is (whole k) k (h refl) refl)
said-cost (suc x) k n h = ap (λ y. record { number = y; values = [] }) n

module _ (c : Call) (A : Arguments) (all : counts_all c ≡ true) where
  weighs : (r : Result Float Refusal) (left : List ℕ) → r ≡ cost_answer c A → left ≡ plan_left c A → Weighs c A r left
  unfolding cost_answer cost_said
  weighs r left h k =
      record { answer = h; said = ap said_by_weighed h ∙ said-cost (refusal c A) _ (refusal-number c A) (λ e. made-exact c A e all); plan = k }

  pub weighs-refused : (r : Result Float Refusal) (e : Refusal) → r ≡ Err e → number_of e ≡ refusal c A → Weighs c A r A.plan
  weighs-refused r e k h = weighs r A.plan (k ∙ refused c A e h) (left-alone c A e h)

  pub weighs-accepted : (f : Float) (left : List ℕ) → refusal c A ≡ 0 → f ≡ whole (cost A.job (made c A))
      → left ≡ encode (stop_count A.job) (made c A) → Weighs c A (Ok f) left
  weighs-accepted f left e h k = weighs (Ok f) left (accepted c A f (sym e) h) (left-new c A left (sym e) k)

-- ---- a rebuild

some-walked : (w : Walk) (k b m : ℕ) → w.cost ≡ whole k → w.begun ≡ b → w.completed ≡ m → Ok w ≡ rebuilt 0 k b m
some-walked w k b m c e f = let s : w ≡ record { cost = whole k; begun = b; completed = m } = rw (← c, ← e, ← f) in ap Ok s

said-rebuilt : (x k b m : ℕ) → IsNumber x → (x ≡ 0 → k ≤ exact) → said_by_rebuilt (rebuilt x k b m) ≡ saying x (k ∷ b ∷ m ∷ [])
unfolding said_by_rebuilt
said-rebuilt zero k b m n h = ap (λ y. saying 0 (y ∷ b ∷ m ∷ [])) (amount-is (whole k) k (h refl) refl)
said-rebuilt (suc x) k b m n h = ap (λ y. record { number = y; values = [] }) n

module _ (A : Arguments) where
  -- what the walk answers, with the number of the refusal
  abbrev numbered : ℕ → Result Walk Refusal
  numbered x = rebuilt x (cost A.job (made Rebuild A)) (begun_by A) (completed_by A)

  rebuilds : (r : Result Walk Refusal) (left : List ℕ) → r ≡ numbered (refusal Rebuild A) → left ≡ plan_left Rebuild A → Rebuilds A r left
  unfolding rebuild_answer rebuild_said
  rebuilds r left h k =
      record { answer = h; said = ap said_by_rebuilt h ∙ said-rebuilt (refusal Rebuild A) _ _ _ (refusal-number Rebuild A) (λ e. made-exact Rebuild A e refl); plan = k }

  pub rebuilds-refused : (r : Result Walk Refusal) (e : Refusal) → r ≡ Err e → number_of e ≡ refusal Rebuild A → Rebuilds A r A.plan
  rebuilds-refused r e k h =
      rebuilds r A.plan (k ∙ err-answer e _ ∙ ap numbered h) (left-alone Rebuild A e h)

  pub rebuilds-accepted : (w : Walk) (left : List ℕ) → refusal Rebuild A ≡ 0 → w.cost ≡ whole (cost A.job (made Rebuild A))
      → w.begun ≡ begun_by A → w.completed ≡ completed_by A → left ≡ encode (stop_count A.job) (made Rebuild A) → Rebuilds A (Ok w) left
  rebuilds-accepted w left e c b m k =
      rebuilds (Ok w) left (some-walked w _ _ _ c b m ∙ ap numbered (sym e)) (left-new Rebuild A left (sym e) k)

-- ---- a written plan

said-written : (x : ℕ) → IsNumber x → said_by_written (written x) ≡ saying x []
unfolding said_by_written
said-written zero n = refl
said-written (suc x) n = ap (λ y. record { number = y; values = [] }) n

module _ (A : Arguments) where
  writes : (r : Result Unit Refusal) (left : List ℕ) → r ≡ start_answer A → left ≡ plan_left StartPlan A → Writes A r left
  unfolding start_answer start_said
  writes r left h k = record { answer = h; said = ap said_by_written h ∙ said-written (refusal StartPlan A) (refusal-number StartPlan A); plan = k }

  pub writes-refused : (r : Result Unit Refusal) (e : Refusal) → r ≡ Err e → number_of e ≡ refusal StartPlan A → Writes A r A.plan
  writes-refused r e k h = writes r A.plan (k ∙ start-refused A e h) (left-alone StartPlan A e h)

  pub writes-accepted : (left : List ℕ) → refusal StartPlan A ≡ 0 → left ≡ encode (stop_count A.job) (made StartPlan A) → Writes A (Ok tt) left
  writes-accepted left e k = writes (Ok tt) left (start-accepted A (sym e)) (left-new StartPlan A left (sym e) k)

-- ---- a run

module _ (A : Arguments) where
  said-run : (x : ℕ) → IsNumber x → (x ≡ 0 → refusal Solve A ≡ 0)
      → said_by_solved (solved x (totals (task_of A))) ≡ saying x (run_values (task_of A) (rounds_of (task_of A)) (final_state (task_of A)).plan)
  unfolding said_by_solved totals
  said-run zero n h =
      let T = task_of A in
      let a = task-accepted A (h refl) in
      let s : amount (totals T).start ≡ cost T.job (start_plan T.job) = amount-is _ _ (formed-exact T a _ (start-formed T.job)) refl in
      let e : amount (totals T).end ≡ cost T.job (final_state T).plan = amount-is _ _ (formed-exact T a _ (final-formed T a)) refl in
      rw (s, e)
  said-run (suc x) n h = ap (λ y. record { number = y; values = [] }) n

  solve-said : said_by_solved (solve_answer A) ≡ solve_said A
  unfolding solve_answer solve_said
  solve-said = said-run (refusal Solve A) (refusal-number Solve A) (λ e. e)

  accepted-said : refusal Solve A ≡ 0
      → solve_said A ≡ record { number = 0; values = run_values (task_of A) (rounds_of (task_of A)) (final_state (task_of A)).plan }
  unfolding solve_said
  accepted-said e = rw e

  -- from the answer and the plan alone
  keeps : (r : Result Totals Refusal) (left : List ℕ) → r ≡ solve_answer A → left ≡ plan_left Solve A → Keeps A r left
  unfolding plan_left made
  keeps r left h k e some =
      record {
        rounds = rounds_of (task_of A);
        totals = totals (task_of A);
        plan = (final_state (task_of A)).plan;
        answer = h ∙ sym (solve-accepted A (totals (task_of A)) e refl);
        said = ap said_by_solved h ∙ solve-said ∙ accepted-said e;
        left = k ∙ ap (λ (y : ℕ). left_by y A (made Solve A)) e;
        promise = promise (task_of A) (task-accepted A e) some;
      }

  solves : (r : Result Totals Refusal) (left : List ℕ) → r ≡ solve_answer A → left ≡ plan_left Solve A → Solves A r left
  solves r left h k = record { answer = h; said = ap said_by_solved h ∙ solve-said; plan = k; keeps = keeps r left h k }

  pub solves-refused : (r : Result Totals Refusal) (e : Refusal) → r ≡ Err e → number_of e ≡ refusal Solve A → Solves A r A.plan
  solves-refused r e k h = solves r A.plan (k ∙ solve-refused A e h) (left-alone Solve A e h)

  pub solves-accepted : (t : Totals) (left : List ℕ) → refusal Solve A ≡ 0 → t ≡ totals (task_of A)
      → left ≡ encode (stop_count A.job) (made Solve A) → Solves A (Ok t) left
  solves-accepted t left e h k = solves (Ok t) left (solve-accepted A t e h) (left-new Solve A left (sym e) k)
