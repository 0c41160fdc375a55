-- Job A's file and what is printed for it, byte by byte.
use mathlib.Core.Path.{◌≡◌, refl}
use Prim.Native.Nat.{ℕ}
use Prim.Native.Char.{code}
use Prim.Native.String as Text
use Prim.Native.String.{String}
use mathlib.Core.Bool.{true}
use mathlib.Core.List.{List, [], ◌∷◌, ◌++◌}
use lib.Ieee as Ieee
use Rattle.std.specs.Prelude.{Ok, Err}
use Rattle.model.specs.declared.refusal.Refusal.TheVariants.{File}
use Rattle.model.specs.Whole.{whole}
use Rattle.model.specs.Run.{Task}
use Rattle.model.specs.File.{
  line_feed,
  last_digits,
  digits,
  columns,
  fields,
  line,
  lines,
  first_line,
  vehicle_lines,
  stop_lines,
  distance_lines,
  draw_lines,
  file_of,
  printed_stop,
  printed_run,
  printed_refusal,
  printed,
}
use Rattle.model.specs.Sums.{job_a}

-- the bytes of a text
unfoldable pub bytes_of : String → List ℕ
bytes_of Text.[] = []
bytes_of (Text.◌∷◌ c s) = code c ∷ bytes_of s

-- the bytes of some lines
unfoldable pub lines_of : List String → List ℕ
unfolding bytes_of
lines_of [] = []
lines_of (s ∷ ss) = bytes_of s ++ line_feed ∷ lines_of ss

-- Job A with its smoothing count, its round limit and its one draw
abbrev pub task_a : Task
task_a = record { job = job_a 1 0; smoothing = 1; limit = 50; draws = 0 ∷ [] }

pub file_a : file_of task_a ≡ lines_of (
    "             1             2             3             1             0           100             1            50" ∷
    "             0             0" ∷
    "             1" ∷
    "             2" ∷
    "             0             2             3" ∷
    "             2             0             9" ∷
    "             9             1             0" ∷
    "             1" ∷
    "             0" ∷
    [])
unfolding file_of first_line vehicle_lines stop_lines distance_lines draw_lines lines line fields columns digits last_digits lines_of
file_a = refl

pub printed_a : printed 2 ((1 ∷ 0 ∷ []) ∷ []) (Ok (record { start = whole 20; end = whole 6; rounds = 10; improving = 1; settled = true })) ≡ lines_of (
    "   0   0" ∷
    "   1   0" ∷
    "                  20                   6                  10                   1                   1" ∷
    [])
unfolding printed printed_run printed_stop line fields columns digits last_digits lines_of Ieee.of_int Ieee.to_unsigned
printed_a = refl

-- a stop that is not on a route
pub printed_unplaced : printed 1 ([] ∷ []) (Ok (record { start = whole 7; end = whole 7; rounds = 0; improving = 0; settled = true })) ≡ lines_of (
    "   0   -" ∷
    "                   7                   7                   0                   0                   1" ∷
    [])
unfolding printed printed_run printed_stop line fields columns digits last_digits lines_of Ieee.of_int Ieee.to_unsigned
printed_unplaced = refl

pub printed_refused : printed 1 ([] ∷ []) (Err File) ≡ lines_of ("                  14" ∷ [])
unfolding printed printed_refusal line fields columns digits last_digits lines_of
printed_refused = refl

-- a number of 14 digits touches the one before it
pub touching : line 14 (7 ∷ 10000000000000 ∷ []) ≡ lines_of ("             710000000000000" ∷ [])
unfolding line fields columns digits last_digits lines_of
touching = refl
