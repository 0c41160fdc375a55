-- Lists that no test of a call's arguments refuses are within the limits.
use mathlib.Core.Path.{◌≡◌}
use Prim.Native.Nat.{ℕ, ◌*◌, ◌%◌, ◌≤◌, ◌<◌}
use native.Mathlib.Decide.{dec_lt}
use native.Mathlib.Omega.{arith}
use mathlib.Core.Bool.{true, false, not, and-eq-true_iff}
use mathlib.Core.List.{List}
use lib.Dec.{eqb, ltb}
use lib.ListN.{length, get_or, get_or-eq_default}
use borrow.Author.Tests.{ltb-false, eqb-true, eqb-false, not-false}
use Rattle.model.specs.Lists.{all_below}
use Rattle.model.specs.Refusals.{bad_vehicles, bad_stops, bad_table, bad_locations, bad_distances}
use Rattle.model.proofs.Lists.{neither}
use Rattle.model.proofs.Counts.{all_below-below, below_at}
use Rattle.distance.specs.Table.{Square, InLimits}

all-at : (n : ℕ) (xs : List ℕ) → all_below n xs ≡ true → (i : ℕ) → i < length xs → get_or xs i 0 < n
all-at n xs h i k = below_at n xs i (all_below-below n xs h) k

pub square : (l : ℕ) (ds : List ℕ) → bad_table l ds ≡ false → Square l ds
unfolding bad_table
square l ds h =
    let p = neither (ltb 80 l) (not (eqb (length ds) (l * l))) h in
    record { locations = ltb-false 80 l p.0; square = eqb-true (length ds) (l * l) (not-false _ p.1) }

module _ (vs ss : List ℕ) (l : ℕ) (ds : List ℕ) where
  short : bad_distances ds ≡ false → (i : ℕ) → get_or ds i 0 ≤ 200000
  unfolding bad_distances
  short h i = go (dec_lt i (length ds))
    where
      go : Dec (i < length ds) → get_or ds i 0 ≤ 200000
      go (yes k) = omega (arith, all-at 200001 ds (not-false _ h) i k)
      go (no k) = rw (get_or-eq_default ds 0 {n = i} (omega arith)) (omega arith)

  pub in-limits : bad_vehicles vs ≡ false → bad_stops ss ≡ false → bad_table l ds ≡ false → bad_locations vs ss l ≡ false → bad_distances ds ≡ false
      → InLimits vs ss l ds
  unfolding bad_vehicles bad_stops bad_locations
  in-limits H S T P D =
      let v = neither (eqb (length vs % 2) 1) (ltb 32 (length vs)) H in
      let p = (and-eq-true_iff (all_below l vs) (all_below l ss)).0 (not-false _ P) in
      let odd : length vs % 2 ≡ 1 → ⊥ = eqb-false (length vs % 2) 1 v.0 in
      record {
        even = omega arith;
        vehicles = ltb-false 32 (length vs) v.1;
        stops = ltb-false 64 (length ss) S;
        table = square l ds T;
        ends = all-at l vs p.0;
        places = all-at l ss p.1;
        short = short D;
      }
