-- The list of zeros that view is lent for what is seen.
use Rattle.std.proofs.Common.{◌≡◌, ◌∙◌, ap, ℕ, ◌≤◌, List}
use lib.ListN.{length, take, replicate, length-replicate}
use Rattle.std.proofs.lemmas.List.{take-replicate}
use Rattle.sheet_lines.specs.Printed.{Printable, most_for_sheet}

-- how long it is
pub lent_length : (m : ℕ) → m ≤ 96 → length {A = ℕ} (take m (replicate 96 0)) ≡ m
lent_length m h = ap length (take-replicate m 96 0 h) ∙ length-replicate m 0

pub lent-printable : (m : ℕ) (out : List ℕ) → m ≤ 96 → most_for_sheet ≤ length out → Printable (take m (replicate 96 0)) out
lent-printable m out h room = record { short = rw (lent_length m h) h; room = room }
