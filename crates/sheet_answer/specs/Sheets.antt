-- Call sheets: their written form, which are read, and what is printed for one.
use Rattle.std.specs.Prelude.{◌≡◌, ℕ, ◌+◌, ◌≤◌, cond, List, [], ◌∷◌, ◌++◌, eqb, length, get_or}
use Rattle.model.specs.Lists.{for_each}
use Rattle.model.specs.Job.{Job, job_of}
use Rattle.model.specs.Run.{Task}
use Rattle.model.specs.File.{file_of, Readable, Stands}
use Rattle.model.specs.Refusals.{Arguments, asking, Call, Weigh, StartPlan, TwoOpt, Rebuild, Exhaustive, Pruned, Solve, Arrive, Cancel, View, MoveStop, Roadworks, unpriced, running, looking, tableless, lengthening}
use Rattle.model.specs.Calls.{cost_answer, rebuild_answer, start_answer, solve_answer, live_answer, view_answer, seen_left, move_answer, road_answer, plan_left, blank}
use Rattle.sheet_head.specs.Form.{last_call, has_given, least_given, most_given, has_plan, head_of, ListFor, longest_plan}
use Rattle.sheet_lines.specs.Printed.{printed_weight, printed_start, printed_weighed, printed_rebuilt, printed_solved, printed_changed, printed_viewed, printed_moved, printed_raised}
use Rattle.sheet_calls.specs.Changing.{changing}
use Rattle.sheet_calls.specs.Moving.{carrying}
use Rattle.sheet_calls.specs.Lengthening.{road_of}

-- a call's number, the given numbers, the plan that is lent, and a task
pub record Sheet : Type 0 where
  pub call : ℕ
  pub given : List ℕ
  pub plan : List ℕ
  pub task : Task

-- ---- the form of a sheet

-- 1 weigh, 2 start_plan, 3 two_opt, 4 rebuild, 5 exhaustive, 6 pruned, 7 solve, 8 arrive, 9 cancel, 10 view, 11 move_stop, 12 roadworks
abbrev pub call_of : ℕ → Call
call_of n =
    cond (eqb n 1) Weigh
    (cond (eqb n 2) StartPlan
    (cond (eqb n 3) TwoOpt
    (cond (eqb n 4) Rebuild
    (cond (eqb n 5) Exhaustive
    (cond (eqb n 6) Pruned
    (cond (eqb n 7) Solve
    (cond (eqb n 8) Arrive
    (cond (eqb n 9) Cancel
    (cond (eqb n 10) View
    (cond (eqb n 11) MoveStop Roadworks))))))))))

-- the written form of a sheet
unfoldable pub sheet_of : Sheet → List ℕ
sheet_of S = head_of S.call S.given S.plan ++ file_of S.task

-- ---- which sheets are read

-- a call without a plan line is lent v + n zeros
pub record ReadableSheet (S : Sheet) : Type 0 where
  pub first : 1 ≤ S.call
  pub last : S.call ≤ last_call
  pub given : ListFor (has_given S.call) (least_given S.call) (most_given S.call) [] S.given
  pub plan : ListFor (has_plan S.call) 0 longest_plan (blank S.task.job) S.plan
  pub task : Readable S.task

-- a sheet stands in the bytes from one position up to another
pub record SheetAt (bytes : List ℕ) (from to : ℕ) (S : Sheet) : Type 0 where
  pub stands : Stands bytes from (sheet_of S)
  pub end : to ≡ from + length (sheet_of S)
  pub readable : ReadableSheet S

-- the most bytes that a sheet has: its number's line, 8 given numbers, a plan of 96 numbers, and the longest job file
abbrev pub longest_sheet : ℕ
longest_sheet = 15 + 113 + 1345 + 106592

-- ---- what is printed for a sheet

-- a job for a call that knows no prices
abbrev pub priceless : Job → Job
priceless J = job_of J.vehicles J.stops J.locations J.distances unpriced

-- a cost and the plan that the call leaves
abbrev pub printed_costs : Call → Arguments → List ℕ
printed_costs c A = printed_weighed (cost_answer c A) (plan_left c A)

-- the live stops, a cost and the plan that the call leaves
abbrev pub printed_changes : Call → Arguments → List ℕ
printed_changes c A = printed_changed (live_answer c A) (plan_left c A)

-- the arguments of view, from the one number of a sheet, a set of vans: v + n zeros are lent for what is seen
abbrev pub seeing : Job → List ℕ → List ℕ → Arguments
seeing J plan given = looking (tableless J.vehicles J.stops) plan (get_or given 0 0) (blank J)

-- what each call prints, given these numbers, this plan and this task
unfoldable pub printed_call : Call → List ℕ → List ℕ → Task → List ℕ
printed_call Weigh given plan T = printed_weight (cost_answer Weigh (asking T.job plan []))
printed_call StartPlan given plan T =
    let A = asking (priceless T.job) plan [] in
    printed_start (start_answer A) (plan_left StartPlan A)
printed_call TwoOpt given plan T = printed_costs TwoOpt (asking T.job plan given)
printed_call Rebuild given plan T =
    let A = asking T.job plan given in
    printed_rebuilt (rebuild_answer A) (plan_left Rebuild A)
printed_call Exhaustive given plan T = printed_costs Exhaustive (asking T.job plan [])
printed_call Pruned given plan T = printed_costs Pruned (asking T.job plan [])
printed_call Solve given plan T =
    let A = running T.job T.smoothing T.limit T.draws plan in
    printed_solved (solve_answer A) (plan_left Solve A)
printed_call Arrive given plan T = printed_changes Arrive (changing T.job plan given)
printed_call Cancel given plan T = printed_changes Cancel (changing T.job plan given)
printed_call View given plan T =
    let A = seeing T.job plan given in
    printed_viewed (view_answer A) (seen_left A)
printed_call MoveStop given plan T =
    let A = carrying T.job plan given in
    printed_moved (move_answer A) (plan_left MoveStop A)
printed_call Roadworks given plan T = printed_raised (road_answer (lengthening T.job plan (road_of given)))

abbrev pub printed_sheet : Sheet → List ℕ
printed_sheet S = printed_call (call_of S.call) S.given S.plan S.task

-- ---- sheets one after another

abbrev pub sheets_of : List Sheet → List ℕ
sheets_of Ss = for_each Ss sheet_of

abbrev pub ReadableSheets : List Sheet → Type 0
ReadableSheets [] = Unit {0}
ReadableSheets (S ∷ Ss) = ReadableSheet S × ReadableSheets Ss

-- their answers, in the same order
abbrev pub printed_sheets : List Sheet → List ℕ
printed_sheets Ss = for_each Ss printed_sheet
