-- What is asked and promised of printing.
use Rattle.std.specs.Prelude.{◌≡◌, ℕ, cond, List, [], ◌∷◌, length}
use Rattle.model.specs.declared.Totals.{Totals}
use Rattle.model.specs.Lists.{for_each, up_from}
use Rattle.model.specs.Whole.{amount, IsWhole}
use Rattle.model.specs.Plan.{Plan, vehicle_of, is_placed}
use Rattle.model.specs.File.{dash, justified, columns, line, printed_stop}
use Rattle.file_columns.specs.Put.{written}

-- the vehicle of a stop in 4 columns
unfoldable pub printed_vehicle : Plan → ℕ → List ℕ
printed_vehicle P s = cond (is_placed s P) (columns 4 (vehicle_of s P)) (justified 4 (dash ∷ []))

-- the lines of the first n stops
unfoldable pub printed_stops : Plan → ℕ → List ℕ
printed_stops P n = for_each (up_from 0 n) (printed_stop P)

-- the line of five numbers
unfoldable pub printed_totals : Totals → List ℕ
printed_totals t = line 20 (amount t.start ∷ amount t.end ∷ t.rounds ∷ t.improving ∷ cond t.settled 1 0 ∷ [])

-- the costs of an answer are whole numbers
abbrev pub Priced : Totals → Type 0
Priced t = IsWhole t.start × IsWhole t.end

-- so many bytes are printed, and the rest is as it was
pub record Prints (old new : List ℕ) (r : ℕ) (text : List ℕ) : Type 0 where
  pub count : r ≡ length text
  pub same : new ≡ written old 0 text
