-- The invariant: the places passed have their ends.
use mathlib.Core.Path.{◌≡◌}
use lib.ListN.{length}
use Rattle.model.specs.declared.Prices.{Prices}
use Rattle.model.specs.Job.{priced}
use Rattle.distance.specs.Table.{EndsOf}
use Rattle.distance.proofs.place_ends.Given as goal

abbrev pub invariant-loop-i : goal.invariant-loop-i
invariant-loop-i l =
    (length l.ends ≡ 80) × ((p : Prices) → EndsOf (priced l.network p) l.i l.ends)
