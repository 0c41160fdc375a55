-- Specification, 12, and refusal 14: a task as the bytes of its file, and an answer as the bytes that the program prints.
use Rattle.std.specs.Prelude.{◌≡◌, ℕ, zero, suc, ◌+◌, ◌-◌, ◌*◌, ◌/◌, ◌%◌, ◌^◌, ◌≤◌, ◌<◌, cond, List, [], ◌∷◌, ◌++◌, ltb, ℤ, pos, negsuc, length, get_or, take, drop, replicate, Result, Ok, Err}
use Rattle.model.specs.declared.Totals.{Totals}
use Rattle.model.specs.declared.refusal.Refusal.{Refusal}
use Rattle.model.specs.Numbers.{number_of}
use Rattle.model.specs.Lists.{for_each, up_from}
use Rattle.model.specs.Whole.{amount}
use Rattle.model.specs.Job.{Job, vehicle_count, stop_count}
use Rattle.model.specs.Plan.{Plan, vehicle_of, is_placed}
use Rattle.model.specs.Run.{Task}
use Rattle.model.specs.Calls.{run_of, final_state, solve_answer}

-- ---- numbers and lines

abbrev pub space : ℕ
space = 32

abbrev pub line_feed : ℕ
line_feed = 10

-- the byte of `-`
abbrev pub dash : ℕ
dash = 45

-- the byte of a digit, which is `0` for 0
abbrev pub digit : ℕ → ℕ
digit d = 48 + d

-- the last k decimal digits of n, without zeros in front (but 0 itself is `0`)
unfoldable pub last_digits : ℕ → ℕ → List ℕ
last_digits zero n = []
last_digits (suc k) n =
    let more = last_digits k (n / 10) ++ (digit (n % 10) ∷ []) in
    cond (ltb n 10) (digit n ∷ []) more

-- each number is decimal, no leading zero (n has at most n + 1 digits)
unfoldable pub digits : ℕ → List ℕ
digits n = last_digits (suc n) n

-- right-justified in w columns filled with spaces
abbrev pub justified : ℕ → List ℕ → List ℕ
justified w xs = replicate (w - length xs) space ++ xs

-- a number in w columns
unfoldable pub columns : ℕ → ℕ → List ℕ
columns w n = justified w (digits n)

-- the digits of a whole number with its sign: `-` before those of a negative one
abbrev pub signed_digits : ℤ → List ℕ
signed_digits (pos n) = digits n
signed_digits (negsuc n) = dash ∷ digits (suc n)

-- such a number in w columns
unfoldable pub signed_columns : ℕ → ℤ → List ℕ
signed_columns w z = justified w (signed_digits z)

-- the number n with the digits of some more bytes at its end, where a space counts as 0
abbrev pub read_on : ℕ → List ℕ → ℕ
read_on n [] = n
read_on n (b ∷ bs) = read_on (n * 10 + (b - digit 0)) bs

-- the number that a field holds
abbrev pub number_in : List ℕ → ℕ
number_in bs = read_on 0 bs

-- numbers in w columns each
unfoldable pub fields : ℕ → List ℕ → List ℕ
fields w ns = for_each ns (columns w)

-- each line ends in a line feed
unfoldable pub line : ℕ → List ℕ → List ℕ
line w ns = fields w ns ++ (line_feed ∷ [])

-- ---- the job file, each number in 14 columns

-- so many lines, of k numbers of a list each
unfoldable pub lines : ℕ → ℕ → List ℕ → List ℕ
lines zero k ns = []
lines (suc m) k ns = line 14 (take k ns) ++ lines m k (drop k ns)

-- v n l w q M c limit
abbrev pub first_numbers : Task → List ℕ
first_numbers T =
    let J = T.job in
    let p = J.prices in
    vehicle_count J ∷ stop_count J ∷ J.locations ∷ p.linear ∷ p.quadratic ∷ p.missed ∷ T.smoothing ∷ T.limit ∷ []

-- line 1
unfoldable pub first_line : Task → List ℕ
first_line T = line 14 (first_numbers T)

-- v lines (start, end)
unfoldable pub vehicle_lines : Job → List ℕ
vehicle_lines J = lines (vehicle_count J) 2 J.vehicles

-- n lines (location)
unfoldable pub stop_lines : Job → List ℕ
stop_lines J = lines (stop_count J) 1 J.stops

-- l lines of l distances
unfoldable pub distance_lines : Job → List ℕ
distance_lines J = lines J.locations J.locations J.distances

-- a line with the draw count, one draw a line
unfoldable pub draw_lines : List ℕ → List ℕ
draw_lines ds = line 14 (length ds ∷ []) ++ lines (length ds) 1 ds

-- the file of a task: these lines, then the end
unfoldable pub file_of : Task → List ℕ
file_of T =
    let J = T.job in
    first_line T ++ (vehicle_lines J ++ (stop_lines J ++ (distance_lines J ++ draw_lines T.draws)))

-- ---- which files are read (everything else is refusal 14)

-- the largest number of a file, M excepted
abbrev pub largest_number : ℕ
largest_number = 4294967295

-- no number of a list is over it
pub record NoneOver (ns : List ℕ) : Type 0 where
  pub small : (i : ℕ) → get_or ns i 0 ≤ largest_number

-- v, n, l and the draw count within the limits, as many numbers as they say, and every number within its own limit; M has at most 14 digits
pub record Readable (T : Task) : Type 0 where
  pub vehicles : vehicle_count T.job ≤ 16
  pub stops : stop_count T.job ≤ 64
  pub locations : T.job.locations ≤ 80
  pub some_draw : 1 ≤ length T.draws
  pub draws : length T.draws ≤ 1024
  pub ends : length T.job.vehicles ≡ vehicle_count T.job * 2
  pub square : length T.job.distances ≡ T.job.locations * T.job.locations
  pub linear : T.job.prices.linear ≤ largest_number
  pub quadratic : T.job.prices.quadratic ≤ largest_number
  pub missed : T.job.prices.missed < 10 ^ 14
  pub smoothing : T.smoothing ≤ largest_number
  pub limit : T.limit ≤ largest_number
  pub vehicle_numbers : NoneOver T.job.vehicles
  pub stop_numbers : NoneOver T.job.stops
  pub distance_numbers : NoneOver T.job.distances
  pub draw_numbers : NoneOver T.draws

-- a file is accepted exactly when it is the written form of a task that can be read
abbrev pub Accepted : List ℕ → Task → Type 0
Accepted bytes T = (bytes ≡ file_of T) × Readable T

-- what stands in the bytes from a position on
abbrev pub Stands : List ℕ → ℕ → List ℕ → Type 0
Stands bytes at piece = take (length piece) (drop at bytes) ≡ piece

-- the same for a file that stands among others, from one position up to another
abbrev pub AcceptedAt : List ℕ → ℕ → ℕ → Task → Type 0
AcceptedAt bytes from to T = Stands bytes from (file_of T) × (to ≡ from + length (file_of T)) × Readable T

-- ---- what the program prints

-- a stop's number and vehicle, 4 columns each (`-` if unplaced)
unfoldable pub printed_stop : Plan → ℕ → List ℕ
printed_stop P s = columns 4 s ++ (cond (is_placed s P) (columns 4 (vehicle_of s P)) (justified 4 (dash ∷ [])) ++ (line_feed ∷ []))

-- a line for each stop in stop order; then on one line start cost, end cost, rounds, improving rounds and 1 for settled or 0 for cut, 20 columns each
unfoldable pub printed_run : ℕ → Plan → ℕ → ℕ → ℕ → ℕ → ℕ → List ℕ
printed_run n P start end rounds improving settled =
    for_each (up_from 0 n) (printed_stop P) ++ line 20 (start ∷ end ∷ rounds ∷ improving ∷ settled ∷ [])

-- for a refusal, only its number, a line of 20 columns
unfoldable pub printed_refusal : ℕ → List ℕ
printed_refusal number = line 20 (number ∷ [])

-- the answer of a run that was lent n stops and left the plan P
unfoldable pub printed : ℕ → Plan → Result Totals Refusal → List ℕ
printed n P (Err e) = printed_refusal (number_of e)
printed n P (Ok t) = printed_run n P (amount t.start) (amount t.end) t.rounds t.improving (cond t.settled 1 0)

-- what the program prints for a task: what `solve` answers, with the plan that it leaves
unfoldable pub printed_task : Task → List ℕ
printed_task T = printed (stop_count T.job) (final_state T).plan (solve_answer (run_of T))
