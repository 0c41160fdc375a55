-- The test of the plan form, in the order in which the code goes.
use Prim.Native.Nat.{ℕ, ◌+◌, ◌-◌, ◌<◌, ◌≤◌}
use native.Mathlib.Omega.{arith}
use mathlib.Core.Path.{◌≡◌, refl, ◌∙◌}
use mathlib.Core.Bool.{Bool, true, false, ◌&&◌}
use mathlib.Core.List.{List, [], ◌∷◌}
use lib.Dec.{eqb}
use Rattle.std.specs.List.{list_all}
use lib.ListN.{length, take, drop, replicate, length-drop}
use lib.Seq.{drop-drop}
use borrow.Author.Tests.{le-leb, lt-leb}
use Rattle.model.specs.Lists.{sum, same, all_below, all_once, part}
use Rattle.model.specs.Plan.{unused, used_part, unused_part, is_plan}
use Rattle.model.proofs.Lists.{part_end}
use Rattle.solution.proofs.Used.{used-part}

-- every place holds u
abbrev pub all : ℕ → List ℕ → Bool
all u xs = same xs (replicate (length xs) u)

-- so each place passes the test
pub all-pass : (u : ℕ) (xs : List ℕ) → list_all (λ x. eqb x u) xs ≡ all u xs
all-pass u [] = refl
all-pass u (x ∷ xs) = rw (all-pass u xs)

module _ (v n : ℕ) (xs : List ℕ) where
  -- too many stops
  pub too-long : n < sum (take v xs) → is_plan v n xs ≡ false
  unfolding is_plan
  too-long h = rw (lt-leb (sum (take v xs)) n h)

  module _ (mid : ℕ) (long : length xs ≡ v + n) (fits : sum (take v xs) ≤ n) (e : mid ≡ v + sum (take v xs)) where
    regroup : (a b c : Bool) → ((a && b) && c) ≡ ((a && c) && b)
    regroup true true true = refl
    regroup true true false = refl
    regroup true false true = refl
    regroup true false false = refl
    regroup false b c = refl

    rest_part : part mid (length xs) xs ≡ unused_part v xs
    rest_part = part_end mid xs ∙ rw (e, drop-drop)

    rest-length : length (unused_part v xs) ≡ n - sum (take v xs)
    rest-length = omega (arith, length-drop (sum (take v xs)) (drop v xs), length-drop v xs)

    -- what the two tests of the stops area say together
    pub by_parts : is_plan v n xs ≡ ((all_below n (part v mid xs) && all_once (part v mid xs)) && all unused (part mid (length xs) xs))
    unfolding is_plan
    by_parts =
        rw (le-leb (sum (take v xs)) n fits, used-part v mid xs e, rest_part, rest-length)
        (regroup (all_below n (used_part v xs)) (same (unused_part v xs) (replicate (n - sum (take v xs)) unused)) (all_once (used_part v xs)))

    -- where the first fails, and where it does not
    pub first-fails : {t : Bool} → t ≡ (all_below n (part v mid xs) && all_once (part v mid xs)) → t ≡ false → is_plan v n xs ≡ false
    first-fails p q = rw (by_parts, ← p, q)

    pub first_holds : {t : Bool} → t ≡ (all_below n (part v mid xs) && all_once (part v mid xs)) → t ≡ true → is_plan v n xs ≡ all unused (part mid (length xs) xs)
    first_holds p q = rw (by_parts, ← p, q)
