-- The public calls: what each answers and what it leaves in the lent plan, for refused and accepted arguments alike.
use Rattle.std.specs.Prelude.{◌≡◌, ℕ, zero, suc, ◌+◌, Bool, true, false, cond, ◌&&◌, ◌||◌, not, List, [], ◌∷◌, leb, ℤ, length, get_or, replicate, Float, Result, Ok, Err}
use Rattle.model.specs.declared.Totals.{Totals}
use Rattle.model.specs.declared.Walk.{Walk}
use Rattle.model.specs.declared.Standing.{Standing}
use Rattle.model.specs.declared.refusal.Refusal.{Refusal}
use Rattle.model.specs.Numbers.{number_of, answer}
use Rattle.model.specs.Whole.{whole, amount}
use Rattle.model.specs.Job.{Job, vehicle_count, stop_count}
use Rattle.model.specs.Plan.{Plan, encode, decode}
use Rattle.model.specs.Cost.{cost}
use Rattle.model.specs.Nearest.{start_plan}
use Rattle.model.specs.TwoOpt.{two_opt}
use Rattle.model.specs.Region.{regions}
use Rattle.model.specs.Rebuild.{rebuild, begun, completed, exhaustive, pruned}
use Rattle.model.specs.Run.{Task, task_for, State, Round, start_state, rounds, last_state, ends}
use Rattle.model.specs.StopSet.{including, excluding}
use Rattle.model.specs.Live.{live_cost, arrived, cancelled}
use Rattle.model.specs.Vans.{unplaced_set, view, moved, cost_change}
use Rattle.model.specs.Roads.{ceiling}
use Rattle.model.specs.Refusals.{Arguments, running, stop_given, live_set, move_given, seen_given, road_given, Call, Weigh, StartPlan, TwoOpt, Rebuild, Exhaustive, Pruned, Solve, Arrive, Cancel, View, MoveStop, Roadworks, refusal}

-- ---- a run

abbrev pub task_of : Arguments → Task
task_of A = task_for A.job A.smoothing A.limit A.draws

-- the numbers of a plan to be written
abbrev pub blank : Job → List ℕ
blank J = replicate (vehicle_count J + stop_count J) 0

-- how a program runs a task: it lends a plan of the right length
abbrev pub run_of : Task → Arguments
run_of T = running T.job T.smoothing T.limit T.draws (blank T.job)

-- v = 0, or n below 2: no rounds
abbrev pub has_rounds : Job → Bool
has_rounds J = leb 1 (vehicle_count J) && leb 2 (stop_count J)

-- the rounds of a task from the start plan on, where it has rounds
unfoldable pub rounds_if : Bool → Task → List Round
rounds_if false T = []
rounds_if true T = rounds T.limit false T (start_state T)

abbrev pub rounds_of : Task → List Round
rounds_of T = rounds_if (has_rounds T.job) T

-- what the run leaves
abbrev pub final_state : Task → State
final_state T = last_state (start_state T) (rounds_of T)

-- start cost, end cost, rounds, improving rounds, settled (as is a run without rounds) or cut
unfoldable pub totals : Task → Totals
totals T =
    record {
      start = whole (cost T.job (start_plan T.job));
      end = whole (cost T.job (final_state T).plan);
      rounds = length (rounds_of T);
      improving = (final_state T).improving;
      settled = not (has_rounds T.job) || ends (final_state T);
    }

-- ---- the plan that a call leaves

-- the plan that was lent
abbrev pub lent_plan : Arguments → Plan
lent_plan A = decode (vehicle_count A.job) A.plan

-- what an accepted call makes of its arguments
unfoldable pub made : Call → Arguments → Plan
made Weigh A = lent_plan A
made StartPlan A = start_plan A.job
made TwoOpt A = two_opt A.job (lent_plan A) (get_or A.given 0 0) (get_or A.given 1 0)
made Rebuild A = rebuild A.job (lent_plan A) A.given
made Exhaustive A = exhaustive A.job
made Pruned A = pruned A.job
made Solve A = (final_state (task_of A)).plan
made Arrive A = arrived A.job (live_set A) (stop_given A) (lent_plan A)
made Cancel A = cancelled (stop_given A) (lent_plan A)
made View A = lent_plan A
made MoveStop A = moved (move_given A) (lent_plan A)
made Roadworks A = lent_plan A

-- the live set after an accepted call: an arrival puts its stop in, a cancellation takes it out, and the others leave it
unfoldable pub new_live : Call → Arguments → ℕ
new_live Weigh A = live_set A
new_live StartPlan A = live_set A
new_live TwoOpt A = live_set A
new_live Rebuild A = live_set A
new_live Exhaustive A = live_set A
new_live Pruned A = live_set A
new_live Solve A = live_set A
new_live Arrive A = including (stop_given A) (live_set A)
new_live Cancel A = excluding (stop_given A) (live_set A)
new_live View A = live_set A
new_live MoveStop A = live_set A
new_live Roadworks A = live_set A

-- refused (by a number above 0): as it was lent; accepted: the lent form of the new plan
abbrev pub left_by : ℕ → Arguments → Plan → List ℕ
left_by zero A P = encode (stop_count A.job) P
left_by (suc k) A P = A.plan

-- the lent plan at exit
unfoldable pub plan_left : Call → Arguments → List ℕ
plan_left c A = left_by (refusal c A) A (made c A)

-- ---- the list that a view is written to

-- refused (by a number above 0): as it was lent; accepted: the lent form of what is seen
abbrev pub seen_by : ℕ → Arguments → Plan → List ℕ
seen_by zero A P = encode (stop_count A.job) P
seen_by (suc k) A P = seen_given A

-- that list at exit
unfoldable pub seen_left : Arguments → List ℕ
seen_left A = seen_by (refusal View A) A (view A.vans (lent_plan A))

-- ---- the answers

abbrev pub weighed : ℕ → ℕ → Result Float Refusal
weighed x c = answer x (whole c)

-- the cost, the fillings begun, the arrangements completed
abbrev pub rebuilt : ℕ → ℕ → ℕ → ℕ → Result Walk Refusal
rebuilt x c b m = answer x (record { cost = whole c; begun = b; completed = m })

abbrev pub written : ℕ → Result Unit Refusal
written x = answer x tt

abbrev pub solved : ℕ → Totals → Result Totals Refusal
solved x t = answer x t

abbrev pub changed : ℕ → ℕ → ℕ → Result Standing Refusal
changed x live c = answer x (record { live = live; cost = whole c })

abbrev pub viewed : ℕ → ℕ → Result ℕ Refusal
viewed x set = answer x set

abbrev pub carried : ℕ → ℤ → Result ℤ Refusal
carried x z = answer x z

abbrev pub raised : ℕ → ℕ → Result ℕ Refusal
raised x rise = answer x rise

-- of weigh, two_opt, exhaustive and pruned: the cost of the plan that is left
unfoldable pub cost_answer : Call → Arguments → Result Float Refusal
cost_answer c A = weighed (refusal c A) (cost A.job (made c A))

-- what the walk of a rebuild counts, in the plan that was lent and the regions around the given stops
unfoldable pub begun_by : Arguments → ℕ
begun_by A = begun (lent_plan A) (regions (lent_plan A) A.given)

unfoldable pub completed_by : Arguments → ℕ
completed_by A = completed (lent_plan A) (regions (lent_plan A) A.given)

-- of rebuild: the cost of the plan that is left, and both counts
unfoldable pub rebuild_answer : Arguments → Result Walk Refusal
rebuild_answer A = rebuilt (refusal Rebuild A) (cost A.job (made Rebuild A)) (begun_by A) (completed_by A)

-- of start_plan
unfoldable pub start_answer : Arguments → Result Unit Refusal
start_answer A = written (refusal StartPlan A)

-- of solve
unfoldable pub solve_answer : Arguments → Result Totals Refusal
solve_answer A = solved (refusal Solve A) (totals (task_of A))

-- of arrive and cancel: the new live set, and the cost of the plan that is left while those stops are live
unfoldable pub live_answer : Call → Arguments → Result Standing Refusal
live_answer c A = changed (refusal c A) (new_live c A) (live_cost A.job (new_live c A) (made c A))

-- of view: the set of unplaced stops
unfoldable pub view_answer : Arguments → Result ℕ Refusal
view_answer A = viewed (refusal View A) (unplaced_set (stop_count A.job) (lent_plan A))

-- of move_stop: the change in cost of the caller's vans and of the missed part
unfoldable pub move_answer : Arguments → Result ℤ Refusal
move_answer A = carried (refusal MoveStop A) (cost_change A.job A.vans (move_given A) (lent_plan A))

-- of roadworks: the ceiling on the rise in cost
unfoldable pub road_answer : Arguments → Result ℕ Refusal
road_answer A = raised (refusal Roadworks A) (ceiling A.job (road_given A) (lent_plan A))

-- ---- the number and the values for each case of an answer: 0 where it is accepted, and then its values

pub record Said : Type 0 where
  pub number : ℕ
  pub values : List ℕ

unfoldable pub said_by_weighed : Result Float Refusal → Said
said_by_weighed (Err e) = record { number = number_of e; values = [] }
said_by_weighed (Ok c) = record { number = 0; values = amount c ∷ [] }

-- the cost, the fillings begun, the arrangements completed
unfoldable pub said_by_rebuilt : Result Walk Refusal → Said
said_by_rebuilt (Err e) = record { number = number_of e; values = [] }
said_by_rebuilt (Ok w) = record { number = 0; values = amount w.cost ∷ w.begun ∷ w.completed ∷ [] }

unfoldable pub said_by_written : Result Unit Refusal → Said
said_by_written (Err e) = record { number = number_of e; values = [] }
said_by_written (Ok _) = record { number = 0; values = [] }

-- start cost, end cost, rounds, improving rounds, 1 for settled or 0 for cut
unfoldable pub said_by_solved : Result Totals Refusal → Said
said_by_solved (Err e) = record { number = number_of e; values = [] }
said_by_solved (Ok t) =
    record { number = 0; values = amount t.start ∷ amount t.end ∷ t.rounds ∷ t.improving ∷ cond t.settled 1 0 ∷ [] }

-- the live set, the cost
unfoldable pub said_by_changed : Result Standing Refusal → Said
said_by_changed (Err e) = record { number = number_of e; values = [] }
said_by_changed (Ok t) = record { number = 0; values = t.live ∷ amount t.cost ∷ [] }

-- the set of unplaced stops
unfoldable pub said_by_viewed : Result ℕ Refusal → Said
said_by_viewed (Err e) = record { number = number_of e; values = [] }
said_by_viewed (Ok set) = record { number = 0; values = set ∷ [] }

-- the rise
unfoldable pub said_by_raised : Result ℕ Refusal → Said
said_by_raised (Err e) = record { number = number_of e; values = [] }
said_by_raised (Ok x) = record { number = 0; values = x ∷ [] }

-- the same with values that have a sign
pub record SignedSaid : Type 0 where
  pub number : ℕ
  pub values : List ℤ

-- the change
unfoldable pub said_by_moved : Result ℤ Refusal → SignedSaid
said_by_moved (Err e) = record { number = number_of e; values = [] }
said_by_moved (Ok z) = record { number = 0; values = z ∷ [] }

-- ---- the number and values that a call has to say, in whole numbers

-- refused (by a number above 0): the number alone; accepted: 0 and the values
abbrev pub saying : ℕ → List ℕ → Said
saying zero values = record { number = 0; values = values }
saying (suc k) values = record { number = suc k; values = [] }

unfoldable pub cost_said : Call → Arguments → Said
cost_said c A = saying (refusal c A) (cost A.job (made c A) ∷ [])

unfoldable pub rebuild_said : Arguments → Said
rebuild_said A = saying (refusal Rebuild A) (cost A.job (made Rebuild A) ∷ begun_by A ∷ completed_by A ∷ [])

unfoldable pub start_said : Arguments → Said
start_said A = saying (refusal StartPlan A) []

unfoldable pub live_said : Call → Arguments → Said
live_said c A = saying (refusal c A) (new_live c A ∷ live_cost A.job (new_live c A) (made c A) ∷ [])

unfoldable pub view_said : Arguments → Said
view_said A = saying (refusal View A) (unplaced_set (stop_count A.job) (lent_plan A) ∷ [])

unfoldable pub road_said : Arguments → Said
road_said A = saying (refusal Roadworks A) (ceiling A.job (road_given A) (lent_plan A) ∷ [])

abbrev pub signed_saying : ℕ → List ℤ → SignedSaid
signed_saying zero values = record { number = 0; values = values }
signed_saying (suc k) values = record { number = suc k; values = [] }

unfoldable pub move_said : Arguments → SignedSaid
move_said A = signed_saying (refusal MoveStop A) (cost_change A.job A.vans (move_given A) (lent_plan A) ∷ [])

-- of a run of these rounds that leaves the plan P
abbrev pub run_values : Task → List Round → Plan → List ℕ
run_values T rs P =
    let J = T.job in
    let s = last_state (start_state T) rs in
    cost J (start_plan J) ∷ cost J P ∷ length rs ∷ s.improving ∷ cond (not (has_rounds J) || ends s) 1 0 ∷ []

unfoldable pub solve_said : Arguments → Said
solve_said A = let T = task_of A in saying (refusal Solve A) (run_values T (rounds_of T) (final_state T).plan)

-- ---- what a call promises: its answer, the number and values that this is, and the lent plan at exit (`solve` promises more: see planner)

-- weigh, two_opt, exhaustive and pruned
pub record Weighs (c : Call) (A : Arguments) (r : Result Float Refusal) (left : List ℕ) : Type 0 where
  pub answer : r ≡ cost_answer c A
  pub said : said_by_weighed r ≡ cost_said c A
  pub plan : left ≡ plan_left c A

-- rebuild
pub record Rebuilds (A : Arguments) (r : Result Walk Refusal) (left : List ℕ) : Type 0 where
  pub answer : r ≡ rebuild_answer A
  pub said : said_by_rebuilt r ≡ rebuild_said A
  pub plan : left ≡ plan_left Rebuild A

-- start_plan
pub record Writes (A : Arguments) (r : Result Unit Refusal) (left : List ℕ) : Type 0 where
  pub answer : r ≡ start_answer A
  pub said : said_by_written r ≡ start_said A
  pub plan : left ≡ plan_left StartPlan A

-- arrive and cancel
pub record Changes (c : Call) (A : Arguments) (r : Result Standing Refusal) (left : List ℕ) : Type 0 where
  pub answer : r ≡ live_answer c A
  pub said : said_by_changed r ≡ live_said c A
  pub plan : left ≡ plan_left c A

-- view; `seen` is the list that it is written to, at exit
pub record Views (A : Arguments) (r : Result ℕ Refusal) (seen : List ℕ) : Type 0 where
  pub answer : r ≡ view_answer A
  pub said : said_by_viewed r ≡ view_said A
  pub list : seen ≡ seen_left A

-- move_stop
pub record Moves (A : Arguments) (r : Result ℤ Refusal) (left : List ℕ) : Type 0 where
  pub answer : r ≡ move_answer A
  pub said : said_by_moved r ≡ move_said A
  pub plan : left ≡ plan_left MoveStop A

-- roadworks, which only reads the plan
pub record Raises (A : Arguments) (r : Result ℕ Refusal) : Type 0 where
  pub answer : r ≡ road_answer A
  pub said : said_by_raised r ≡ road_said A
