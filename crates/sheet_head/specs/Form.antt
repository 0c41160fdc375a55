-- The form of the lines before a sheet's job file. The calls' numbers are 1 weigh, 2 start_plan, 3 two_opt, 4 rebuild, 5 exhaustive, 6 pruned, 7 solve,
-- 8 arrive, 9 cancel, 10 view, 11 move_stop, 12 roadworks.
use Rattle.std.specs.Prelude.{◌≡◌, ℕ, ◌≤◌, Bool, true, false, ◌||◌, List, [], ◌∷◌, ◌++◌, eqb, ltb, length, get_or}
use Rattle.model.specs.File.{line, NoneOver}
use Rattle.model.specs.Refusals.{within}

-- the last call's number
abbrev pub last_call : ℕ
last_call = 12

-- how many numbers a call is given, by its number from 0 on: at least and at most so many
abbrev pub least_numbers : List ℕ
least_numbers = 0 ∷ 0 ∷ 0 ∷ 2 ∷ 0 ∷ 0 ∷ 0 ∷ 0 ∷ 3 ∷ 3 ∷ 1 ∷ 4 ∷ 3 ∷ []

abbrev pub most_numbers : List ℕ
most_numbers = 0 ∷ 0 ∷ 0 ∷ 2 ∷ 8 ∷ 0 ∷ 0 ∷ 0 ∷ 3 ∷ 3 ∷ 1 ∷ 4 ∷ 3 ∷ []

-- two stops for 3; none to eight stops for 4; for 8 and 9 a stop, and the low and the high 32 bits of the set of live stops; for 10 a set of vans; for 11 such a
-- set, a stop, a van and a place; for 12 two locations and how many metres more
abbrev pub least_given : ℕ → ℕ
least_given n = get_or least_numbers n 0

abbrev pub most_given : ℕ → ℕ
most_given n = get_or most_numbers n 0

-- where there may be some, a line with them
abbrev pub has_given : ℕ → Bool
has_given n = ltb 0 (most_given n)

-- the most numbers of a plan's line
abbrev pub longest_plan : ℕ
longest_plan = 96

-- for 1, 3, 4 and 8 to 12 a line with the plan's numbers
abbrev pub has_plan : ℕ → Bool
has_plan n = eqb n 1 || (eqb n 3 || (eqb n 4 || within 8 12 n))

-- a line that is there, or is not
abbrev pub line_if : Bool → List ℕ → List ℕ
line_if true ns = line 14 ns
line_if false ns = []

-- the lines before the job file
unfoldable pub head_of : ℕ → List ℕ → List ℕ → List ℕ
head_of call given plan = line 14 (call ∷ []) ++ (line_if (has_given call) given ++ line_if (has_plan call) plan)

-- the numbers of a line, so many of them; where there is no line they are known without it
abbrev pub ListFor : Bool → ℕ → ℕ → List ℕ → List ℕ → Type 0
ListFor true least most known ns = (least ≤ length ns) × (length ns ≤ most) × NoneOver ns
ListFor false least most known ns = ns ≡ known
