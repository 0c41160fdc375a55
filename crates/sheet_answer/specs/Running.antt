-- What is asked and promised of running the call of a sheet.
use Rattle.std.specs.Prelude.{◌≡◌, ℕ, ◌+◌, ◌/◌, ◌≤◌, cond, List, length, replicate}
use Rattle.model.specs.Job.{Job, vehicle_count, stop_count}
use Rattle.model.specs.Run.{Task}
use Rattle.model.specs.File.{printed_refusal}
use Rattle.file_job.specs.declared.task.Task as file
use Rattle.file_job.specs.Reading.{task_of}
use Rattle.file_printing.specs.Printing.{Prints}
use Rattle.sheet_lines.specs.Printed.{Printable}
use Rattle.sheet_head.specs.declared.head.Head.{Head}
use Rattle.sheet_head.specs.Numbered.{number_of_call}
use Rattle.sheet_head.specs.Reading.{given_of, plan_of}
use Rattle.sheet_answer.specs.declared.SheetRead.{SheetRead}
use Rattle.sheet_answer.specs.declared.SheetRead.TheVariants as R
use Rattle.sheet_head.specs.Form.{last_call, least_given, most_given, has_plan, longest_plan}
use Rattle.sheet_answer.specs.Sheets.{Sheet, SheetAt, call_of, printed_call, printed_sheet}

-- a call's number, the numbers and the plan that it is lent, and room to print into: as many numbers as the call asks for, where that is one count
pub record Runs (call : ℕ) (given plan out : List ℕ) : Type 0 where
  pub first : 1 ≤ call
  pub last : call ≤ last_call
  pub counted : (k : ℕ) → call ≡ k → least_given k ≡ most_given k → length given ≡ least_given k
  pub printable : Printable plan out

-- the vehicles and the stops of a job whose plan is no longer than one of a sheet
abbrev pub Small : List ℕ → List ℕ → Type 0
Small vehicles stops = length vehicles / 2 + length stops ≤ longest_plan

-- so many bytes are printed for a call, whatever else the task of this job is
abbrev pub JobPrints : ℕ → Job → List ℕ → List ℕ → List ℕ → List ℕ → ℕ → Type 0
JobPrints call J given plan old new r =
    (T : Task) → T.job ≡ J → Prints old new r (printed_call (call_of call) given plan T)

-- the plan that a call is lent: the numbers of its line, or so many zeros
abbrev pub lent_plan : ℕ → List ℕ → ℕ → List ℕ
lent_plan call lined whole = cond (has_plan call) lined (replicate whole 0)

-- the sheet of a head and a task that were read
abbrev pub sheet_in : Head → file.Task → Sheet
sheet_in k t =
    let T = task_of t in
    let call = number_of_call k.call in
    record {
      call = call;
      given = given_of k;
      plan = lent_plan call (plan_of k) (vehicle_count T.job + stop_count T.job);
      task = T;
    }

-- a sheet is answered: it ends there, and so many bytes are printed for it, for which there is room
pub record Answered (bytes : List ℕ) (at end : ℕ) (old new : List ℕ) (r : ℕ) : Type 0 where
  pub sheet : Sheet
  pub there : SheetAt bytes at end sheet
  pub prints : Prints old new r (printed_sheet sheet)
  pub only : (to : ℕ) (S : Sheet) → SheetAt bytes at to S → (to ≡ end) × (S ≡ sheet)
  pub further : at + 1 ≤ end
  pub within : end ≤ length bytes
  pub fits : r ≤ length old

-- no sheet stands there, and refusal 14 is printed
pub record NoSheet (bytes : List ℕ) (at : ℕ) (old new : List ℕ) (r : ℕ) : Type 0 where
  pub none : (to : ℕ) (S : Sheet) → SheetAt bytes at to S → ⊥
  pub prints : Prints old new r (printed_refusal 14)
  pub fits : r ≤ length old

-- the one sheet that stands there is answered, or none does
abbrev pub AnswersSheet : List ℕ → ℕ → List ℕ → List ℕ → SheetRead → Type 0
AnswersSheet bytes at old new (R.Answered end r) = Answered bytes at end old new r
AnswersSheet bytes at old new (R.Bad r) = NoSheet bytes at old new r
