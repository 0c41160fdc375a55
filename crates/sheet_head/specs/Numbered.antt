-- The calls' numbers.
use Rattle.std.specs.Prelude.{◌≡◌, ℕ, ◌≤◌, Option, Some, None}
use Rattle.sheet_head.specs.declared.Call.{Call}
use Rattle.sheet_head.specs.declared.Call.TheVariants.{Weigh, StartPlan, TwoOpt, Rebuild, Exhaustive, Pruned, Solve, Arrive, Cancel, View, MoveStop, Roadworks}
use Rattle.sheet_head.specs.Form.{last_call}

-- the number of a call on a sheet
abbrev pub number_of_call : Call → ℕ
number_of_call Weigh = 1
number_of_call StartPlan = 2
number_of_call TwoOpt = 3
number_of_call Rebuild = 4
number_of_call Exhaustive = 5
number_of_call Pruned = 6
number_of_call Solve = 7
number_of_call Arrive = 8
number_of_call Cancel = 9
number_of_call View = 10
number_of_call MoveStop = 11
number_of_call Roadworks = 12

-- 0 for none
abbrev pub call_number : Option Call → ℕ
call_number (Some call) = number_of_call call
call_number None = 0

-- the call of a number, or none where it is no call's
abbrev pub Numbered : ℕ → Option Call → Type 0
Numbered n (Some call) = n ≡ number_of_call call
Numbered n None = 1 ≤ n → n ≤ last_call → ⊥
