-- What is printed for the answer of a single call, and the plan that it leaves.
use Rattle.std.specs.Prelude.{ℕ, ℤ, ◌+◌, ◌*◌, ◌≤◌, ◌≡◌, List, ◌++◌, Float, length, Result, Ok, Err}
use Rattle.model.specs.declared.Walk.{Walk}
use Rattle.model.specs.declared.Totals.{Totals}
use Rattle.model.specs.declared.Standing.{Standing}
use Rattle.model.specs.declared.refusal.Refusal.{Refusal}
use Rattle.model.specs.Numbers.{number_of}
use Rattle.model.specs.Whole.{IsWhole}
use Rattle.model.specs.File.{line, printed_refusal}
use Rattle.file_printing.specs.Printing.{printed_totals}
use Rattle.sheet_printing.specs.Costs.{printed_cost, printed_walk, printed_standing, printed_number, printed_change}
use Rattle.sheet_head.specs.Form.{longest_plan}

-- an answer alone, by what is printed for its value
abbrev pub printed_alone : {T : Type 0} → (T → List ℕ) → Result T Refusal → List ℕ
printed_alone text (Err e) = printed_refusal (number_of e)
printed_alone text (Ok t) = text t

-- an answer and a plan
abbrev pub printed_answer : {T : Type 0} → (T → List ℕ) → Result T Refusal → List ℕ → List ℕ
printed_answer text (Err e) plan = printed_refusal (number_of e)
printed_answer text (Ok t) plan = text t ++ line 14 plan

-- of weigh: the cost
abbrev pub printed_weight : Result Float Refusal → List ℕ
printed_weight (Err e) = printed_refusal (number_of e)
printed_weight (Ok c) = printed_cost c

-- of start_plan: the plan
abbrev pub printed_start : Result Unit Refusal → List ℕ → List ℕ
printed_start (Err e) plan = printed_refusal (number_of e)
printed_start (Ok _) plan = line 14 plan

-- of two_opt, exhaustive and pruned: the cost and the plan
abbrev pub printed_weighed : Result Float Refusal → List ℕ → List ℕ
printed_weighed (Err e) plan = printed_refusal (number_of e)
printed_weighed (Ok c) plan = printed_cost c ++ line 14 plan

-- of rebuild: the cost, the fillings begun, the arrangements completed and the plan
abbrev pub printed_rebuilt : Result Walk Refusal → List ℕ → List ℕ
printed_rebuilt (Err e) plan = printed_refusal (number_of e)
printed_rebuilt (Ok w) plan = printed_walk w ++ line 14 plan

-- of solve: the numbers of the run and the plan
abbrev pub printed_solved : Result Totals Refusal → List ℕ → List ℕ
printed_solved (Err e) plan = printed_refusal (number_of e)
printed_solved (Ok t) plan = printed_totals t ++ line 14 plan

-- of arrive and cancel: the set of live stops, the cost and the plan
abbrev pub printed_changed : Result Standing Refusal → List ℕ → List ℕ
printed_changed (Err e) plan = printed_refusal (number_of e)
printed_changed (Ok t) plan = printed_standing t ++ line 14 plan

-- of view: the set of unplaced stops, and what is seen of the plan
abbrev pub printed_viewed : Result ℕ Refusal → List ℕ → List ℕ
printed_viewed (Err e) seen = printed_refusal (number_of e)
printed_viewed (Ok set) seen = printed_number set ++ line 14 seen

-- of move_stop: the change in cost and the plan
abbrev pub printed_moved : Result ℤ Refusal → List ℕ → List ℕ
printed_moved (Err e) plan = printed_refusal (number_of e)
printed_moved (Ok z) plan = printed_change z ++ line 14 plan

-- of roadworks: the rise in cost
abbrev pub printed_raised : Result ℕ Refusal → List ℕ
printed_raised (Err e) = printed_refusal (number_of e)
printed_raised (Ok x) = printed_number x

-- the most that is printed for a sheet: the numbers of a run and a plan
abbrev pub most_for_sheet : ℕ
most_for_sheet = 14 * longest_plan + 102

-- a plan of a sheet, and room to print into
pub record Printable (plan out : List ℕ) : Type 0 where
  pub short : length plan ≤ longest_plan
  pub room : most_for_sheet ≤ length out

-- what an answer that is accepted has to be
abbrev pub Accepts : {T : Type 0} → (T → Type 0) → Result T Refusal → Type 0
Accepts {T} P a = (t : T) → a ≡ Ok t → P t

-- an answer's cost is a whole number
abbrev pub Exactly : Result Float Refusal → Type 0
Exactly = Accepts IsWhole

abbrev pub WalkedExactly : Result Walk Refusal → Type 0
WalkedExactly = Accepts (λ w. IsWhole w.cost)

abbrev pub StandsExactly : Result Standing Refusal → Type 0
StandsExactly = Accepts (λ t. IsWhole t.cost)
