-- What the program prints for the bytes that it reads.
use Rattle.std.specs.Prelude.{◌≡◌, ℕ, ◌+◌, ◌*◌, ◌≤◌, List, length}
use Rattle.model.specs.Run.{Task}
use Rattle.model.specs.File.{Accepted, printed_task, printed_refusal}
use Rattle.file_printing.specs.Printing.{Prints}

-- the most that is printed: 64 lines of stops, and the line of a run
abbrev pub most_for_file : ℕ
most_for_file = 64 * 9 + 101

-- so many bytes are printed, and there is room for them: for a file what its task answers, and refusal 14 where the bytes are no file
pub record Answers (bytes old new : List ℕ) (r : ℕ) : Type 0 where
  pub accepted : (T : Task) → Accepted bytes T → Prints old new r (printed_task T)
  pub within : r ≤ length old
  pub refused : ((T : Task) → Accepted bytes T → ⊥) → Prints old new r (printed_refusal 14)

-- some bytes were read, and as many are printed as their answer has: that of their task, or refusal 14 where they are no file
pub record Printed (r : ℕ) : Type 0 where
  pub bytes : List ℕ
  pub accepted : (T : Task) → Accepted bytes T → r ≡ length (printed_task T)
  pub refused : ((T : Task) → Accepted bytes T → ⊥) → r ≡ length (printed_refusal 14)
