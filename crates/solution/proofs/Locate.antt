-- The search for a stop: its place in the stops area, and the routes' lengths run down.
use Prim.Native.Nat.{ℕ, suc, ◌+◌, ◌-◌, ◌<◌, ◌≤◌}
use native.Mathlib.Omega.{arith}
use mathlib.Core.Path.{◌≡◌, refl, sym, ap, ◌∙◌}
use Rattle.std.proofs.Common.{Some, None}
use mathlib.Core.Bool.{Bool, true, false, cond, ◌||◌, true≢false}
use mathlib.Core.List.{List, [], ◌∷◌, ◌++◌}
use native.Mathlib.Numerals.{add-one}
use lib.ListN.{length, get_or, take, drop, take-append-drop}
use lib.Seq.{drop-drop}
use lib.Dec.{eqb}
use Rattle.model.specs.Lists.{sum, member, position}
use Rattle.model.specs.Plan.{route_of, vehicle_of, is_placed, decode, Lent}
use Rattle.model.proofs.Lists.{sum_more, position-lt}
use Rattle.model.proofs.PlanForm.{route-part, route-length, lent_length}
use Rattle.model.proofs.Locate.{vehicle-only, vehicle-lt, vehicle-has, route-placed}
use Rattle.solution.specs.Places.{place_of}

-- the first position in two lists, one after the other
position-append : (x : ℕ) (xs ys : List ℕ) → position x (xs ++ ys) ≡ cond (member x xs) (position x xs) (length xs + position x ys)
position-append x [] ys = omega arith
position-append x (z ∷ xs) ys = go (eqb x z) (member x xs) (position-append x xs ys)
  where
    go : (t b : Bool) → position x (xs ++ ys) ≡ cond b (position x xs) (length xs + position x ys)
        → cond t 0 (suc (position x (xs ++ ys))) ≡ cond (t || b) (cond t 0 (suc (position x xs))) (suc (length xs) + position x ys)
    go true b e = refl
    go false true e = omega arith
    go false false e = omega arith

-- no route before k has the stop
abbrev pub Passed : ℕ → List ℕ → ℕ → ℕ → Type 0
Passed v xs s k = (j : ℕ) → j < k → member s (route_of (decode v xs) j) ≡ false

module _ (v n : ℕ) (xs : List ℕ) (p : Lent v n xs) (s : ℕ) where
  -- all routes were passed
  pub nowhere : (k : ℕ) → v ≤ k → Passed v xs s k → None ≡ place_of s (decode v xs)
  nowhere k g f = go (is_placed s (decode v xs)) refl
    where
      go : (t : Bool) → is_placed s (decode v xs) ≡ t → None ≡ place_of s (decode v xs)
      go true on =
          let h : vehicle_of s (decode v xs) < k = omega (arith, vehicle-lt s (decode v xs) on, lent_length v n xs p) in
          absurd (true≢false (sym (vehicle-has s (decode v xs) on) ∙ f (vehicle_of s (decode v xs)) h))
      go false off = rw off

  -- the stop is at index `at` of the places from route k on
  module _ (k at : ℕ) (h : k < v) (e : at ≡ position s (drop (v + sum (take k xs)) xs)) where
    abbrev route : List ℕ
    route = route_of (decode v xs) k

    abbrev rest : List ℕ
    rest = drop (v + sum (take (k + 1) xs)) xs

    as_long : length route ≡ get_or xs k 0
    as_long = route-length v n xs p.long p.fits k h

    -- these places are those of route k and the rest
    apart : at ≡ cond (member s route) (position s route) (get_or xs k 0 + position s rest)
    apart =
        let start : ℕ = v + sum (take k xs) in
        let end : v + sum (take (k + 1) xs) ≡ start + get_or xs k 0 = rw add-one (omega (arith, sum_more xs k)) in
        let size : start + get_or xs k 0 - start ≡ get_or xs k 0 = omega arith in
        let split : drop start xs ≡ route ++ rest =
        rw (route-part v xs (omega (arith, p.long)) k start h refl, end, size, ← drop-drop (get_or xs k 0) start xs) (sym (take-append-drop (get_or xs k 0) (drop start xs)))
        in
        e ∙ ap (position s) split ∙ rw as_long at (position-append s route rest)

    pub found : at < get_or xs k 0 → Some (record { vehicle = k; position = at }) ≡ place_of s (decode v xs)
    found g = go (member s route) refl
      where
        go : (t : Bool) → member s route ≡ t → Some (record { vehicle = k; position = at }) ≡ place_of s (decode v xs)
        go true m =
            let here : at ≡ position s route = rw m at apart in
            rw (route-placed s (decode v xs) k m, vehicle-only s (decode v xs) k p.once m, here)
        go false m = absurd (omega (arith, rw m at apart))

    pub passed : get_or xs k 0 ≤ at → (member s route ≡ false) × (at - get_or xs k 0 ≡ position s rest)
    passed g = go (member s route) refl
      where
        go : (t : Bool) → member s route ≡ t → (member s route ≡ false) × (at - get_or xs k 0 ≡ position s rest)
        go true m = absurd (omega (arith, position-lt s route m, as_long, rw m at apart))
        go false m = (m, omega (arith, rw m at apart))
