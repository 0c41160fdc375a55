-- A line that stands there has at least i numbers.
use mathlib.Core.Path.{◌≡◌}
use mathlib.Core.List.{List}
use Prim.Native.Nat.{ℕ, ◌+◌, ◌*◌, ◌≤◌}
use lib.ListN.{length}
use Rattle.sheet_head.specs.Reading.{Listing}
use Rattle.sheet_head.proofs.count_fields.Given as goal

abbrev pub invariant-loop-i : goal.invariant-loop-i
invariant-loop-i l = (l.next ≡ l.at + 14 * l.i) × ((ns : List ℕ) → Listing l.bytes l.at 0 l.most ns → l.i ≤ length ns)
