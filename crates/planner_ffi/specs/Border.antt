-- What a host gets: the number that a call returns, what stands in the numbers that it lends for results, and the plan.
use Rattle.std.specs.Prelude.{◌≡◌, ℕ, cond, List, [], ◌∷◌, Float, ℤ, Result, Ok, Err}
use Rattle.model.specs.declared.Prices.{Prices}
use Rattle.model.specs.declared.Walk.{Walk}
use Rattle.model.specs.declared.Totals.{Totals}
use Rattle.model.specs.declared.Standing.{Standing}
use Rattle.model.specs.declared.refusal.Refusal.{Refusal}
use Rattle.model.specs.Whole.{amount}
use Rattle.model.specs.Refusals.{Arguments, Call, StartPlan, Rebuild, Solve, MoveStop}
use Rattle.model.specs.Calls.{cost_answer, rebuild_answer, solve_answer, live_answer, view_answer, move_answer, road_answer, plan_left, seen_left, saying, signed_saying, cost_said, rebuild_said, start_said, solve_said, live_said, view_said, move_said, road_said}
use Rattle.planner.specs.Kept.{Keeps}

-- prices cross the border as three numbers
abbrev pub priced : ℕ → ℕ → ℕ → Prices
priced linear quadratic missed = record { linear = linear; quadratic = quadratic; missed = missed }

-- ---- the numbers lent for results: the answer's, or what was there, where the call is refused

-- where one value is lent: the cost, the set of unplaced stops, the change in cost with its sign, or the rise in cost; and the walk of a rebuild
abbrev pub value_left : {T : Type 0} → Result T Refusal → T → T
value_left (Ok t) old = t
value_left (Err e) old = old

-- of rebuild: the cost, the fillings begun, the arrangements completed
abbrev pub walk : Float → ℕ → ℕ → Walk
walk cost begun completed = record { cost = cost; begun = begun; completed = completed }

-- of arrive and cancel: the live set, the cost
unfoldable pub live_left : Result Standing Refusal → ℕ → ℕ
live_left (Err e) old = old
live_left (Ok t) old = t.live

unfoldable pub live_cost_left : Result Standing Refusal → Float → Float
live_cost_left (Err e) old = old
live_cost_left (Ok t) old = t.cost

-- of solve, one for each number that is lent
pub record Results : Type 0 where
  pub start : Float
  pub end : Float
  pub rounds : ℕ
  pub improving : ℕ
  pub settled : ℕ

-- 1 for settled, 0 for cut
unfoldable pub results_left : Result Totals Refusal → Results → Results
results_left (Err e) old = old
results_left (Ok t) old =
    record { start = t.start; end = t.end; rounds = t.rounds; improving = t.improving; settled = cond t.settled 1 0 }

abbrev pub results : Float → Float → ℕ → ℕ → ℕ → Results
results start end rounds improving settled = record { start = start; end = end; rounds = rounds; improving = improving; settled = settled }

-- the same numbers as the answer's values
abbrev pub values_in : Results → List ℕ
values_in x = amount x.start ∷ amount x.end ∷ x.rounds ∷ x.improving ∷ x.settled ∷ []

-- ---- what a call promises its host: the number r and the values, the numbers lent for results bit by bit, and the plan

pub record HandsCost (c : Call) (A : Arguments) (r : ℕ) (old new : Float) (left : List ℕ) : Type 0 where
  pub said : saying r (amount new ∷ []) ≡ cost_said c A
  pub cost : new ≡ value_left (cost_answer c A) old
  pub plan : left ≡ plan_left c A

pub record HandsRebuilt (A : Arguments) (r : ℕ) (old new : Walk) (left : List ℕ) : Type 0 where
  pub said : saying r (amount new.cost ∷ new.begun ∷ new.completed ∷ []) ≡ rebuild_said A
  pub walk : new ≡ value_left (rebuild_answer A) old
  pub plan : left ≡ plan_left Rebuild A

pub record HandsPlan (A : Arguments) (r : ℕ) (left : List ℕ) : Type 0 where
  pub said : saying r [] ≡ start_said A
  pub plan : left ≡ plan_left StartPlan A

pub record HandsChange (c : Call) (A : Arguments) (r : ℕ) (old_live new_live : ℕ) (old_cost new_cost : Float) (left : List ℕ) : Type 0 where
  pub said : saying r (new_live ∷ amount new_cost ∷ []) ≡ live_said c A
  pub after : new_live ≡ live_left (live_answer c A) old_live
  pub cost : new_cost ≡ live_cost_left (live_answer c A) old_cost
  pub plan : left ≡ plan_left c A

-- `seen` is the list that a view is written to
pub record HandsView (A : Arguments) (r : ℕ) (old new : ℕ) (seen : List ℕ) : Type 0 where
  pub said : saying r (new ∷ []) ≡ view_said A
  pub unplaced : new ≡ value_left (view_answer A) old
  pub list : seen ≡ seen_left A

pub record HandsMove (A : Arguments) (r : ℕ) (old new : ℤ) (left : List ℕ) : Type 0 where
  pub said : signed_saying r (new ∷ []) ≡ move_said A
  pub change : new ≡ value_left (move_answer A) old
  pub plan : left ≡ plan_left MoveStop A

pub record HandsRise (A : Arguments) (r : ℕ) (old new : ℕ) : Type 0 where
  pub said : saying r (new ∷ []) ≡ road_said A
  pub rise : new ≡ value_left (road_answer A) old

pub record HandsRun (A : Arguments) (r : ℕ) (old new : Results) (left : List ℕ) : Type 0 where
  pub said : saying r (values_in new) ≡ solve_said A
  pub results : new ≡ results_left (solve_answer A) old
  pub plan : left ≡ plan_left Solve A
  pub keeps : Keeps A (solve_answer A) left
