-- Laws of the tests of a road.
use mathlib.Core.Path.{◌≡◌}
use mathlib.Core.Bool.{false, and-eq-true_iff}
use Prim.Native.Nat.{ℕ, ◌<◌}
use lib.Dec.{ltb}
use borrow.Author.Tests.{ltb-true, not-false}
use Rattle.model.specs.declared.Road.{Road}
use Rattle.model.specs.Roads.{bad_road}

-- a road that is not refused as 6 is one of the table
pub on-table : (l : ℕ) (road : Road) → bad_road l road ≡ false → (road.from < l) × (road.to < l)
unfolding bad_road
on-table l road h =
    let p = (and-eq-true_iff (ltb road.from l) (ltb road.to l)).0 (not-false _ h) in
    (ltb-true _ _ p.0, ltb-true _ _ p.1)
