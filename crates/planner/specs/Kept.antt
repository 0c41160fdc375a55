-- What `solve` promises: its answer, the number and values that this is, the plan that it leaves, and of these demand 3.
use Rattle.std.specs.Prelude.{◌≡◌, true, List, ℕ, Result, Ok}
use Rattle.model.specs.declared.Totals.{Totals}
use Rattle.model.specs.declared.refusal.Refusal.{Refusal}
use Rattle.model.specs.Job.{stop_count}
use Rattle.model.specs.Plan.{Plan, encode}
use Rattle.model.specs.Run.{Round}
use Rattle.model.specs.Refusals.{Arguments, Solve, refusal}
use Rattle.model.specs.Calls.{task_of, has_rounds, plan_left, solve_answer, said_by_solved, run_values, solve_said}
use Rattle.model.specs.Promise.{Promise}

-- There are rounds for which the promise holds. The answer and the lent plan are those that it speaks of, and what is said is that the call is
-- accepted, with the costs of the start plan and of the plan left, the number of these rounds, of the improving ones, and whether they settled.
pub record Kept (A : Arguments) (r : Result Totals Refusal) (lent : List ℕ) : Type 0 where
  pub rounds : List Round
  pub totals : Totals
  pub plan : Plan
  pub answer : r ≡ Ok totals
  pub said : said_by_solved r ≡ record { number = 0; values = run_values (task_of A) rounds plan }
  pub left : lent ≡ encode (stop_count A.job) plan
  pub promise : Promise (task_of A) rounds totals plan

-- so it is where the arguments are accepted, with a vehicle and two or more stops
abbrev pub Keeps : Arguments → Result Totals Refusal → List ℕ → Type 0
Keeps A r lent = refusal Solve A ≡ 0 → has_rounds A.job ≡ true → Kept A r lent

pub record Solves (A : Arguments) (r : Result Totals Refusal) (left : List ℕ) : Type 0 where
  pub answer : r ≡ solve_answer A
  pub said : said_by_solved r ≡ solve_said A
  pub plan : left ≡ plan_left Solve A
  pub keeps : Keeps A r left
