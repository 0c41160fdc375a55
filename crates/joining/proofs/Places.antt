-- The lent form of a plan with a stop put in or taken out: one length is another, and the stops area from the stop's place on is shifted.
use Prim.Native.Nat.{ℕ, zero, suc, ◌+◌, ◌-◌, ◌<◌, ◌≤◌}
use native.Mathlib.Omega.{arith}
use native.Mathlib.Nat.{le_of_suc-le-suc, zero-add}
use native.Mathlib.Numerals.{add-one}
use mathlib.Core.Path.{◌≡◌, refl, sym, ap, ap₂, ◌∙◌}
use mathlib.Core.List.{List, [], ◌∷◌, ◌++◌, append_assoc, map}
use lib.ListN.{length, get_or, take, drop, set, replicate, length-append, length-take, length-drop, length-map, length-replicate, replicate-append-replicate, get_or-append}
use lib.Seq.{drop-drop, take-append-le, drop-append-le, take-append-add, drop-append-add, set-append_left, get_or-take, length-take-le}
use Rattle.model.specs.Lists.{sum, concat, change}
use Rattle.model.specs.Plan.{Plan, Route, route_of, placed, encode, decode, unused, Lent}
use Rattle.model.specs.Live.{put_in, placing}
use Rattle.model.proofs.Lists.{change-set, get_or-lengths, part_end, sum-upto}
use Rattle.model.proofs.Live.{length-put_in}
use Rattle.model.proofs.PlanForm.{encode-sum, lent_length, lent_placed, route-length, placed-decode}
use Rattle.model.proofs.Placings.{stops-put_in, lengths-put_in}
use Rattle.pasting.proofs.Put.{lent-rest}
use Rattle.joining.specs.Places.{leaving_out}

-- ---- a stop taken out: its length, and its place among the stops of all routes

leaving_out-past : (r : Route) (j : ℕ) (xs : Route) → leaving_out (length r + j) (r ++ xs) ≡ r ++ leaving_out j xs
leaving_out-past r j xs =
    let e : suc (length r + j) ≡ length r + suc j = omega arith in
    rw (e, take-append-add, drop-append-add, append_assoc)

leaving_out-within : (i : ℕ) (r xs : Route) → i < length r → leaving_out i (r ++ xs) ≡ leaving_out i r ++ xs
leaving_out-within i r xs h = rw (take-append-le i r xs (omega arith), drop-append-le (suc i) r xs h, append_assoc)

length-leaving_out : (i : ℕ) (r : Route) → i < length r → length (leaving_out i r) ≡ length r - 1
length-leaving_out i r h = simp (length-append, length-take, length-drop) (omega arith)

stops-leaving_out : (k i : ℕ) (P : Plan) → k < length P → i < length (route_of P k)
    → concat (change k (leaving_out i) P) ≡ leaving_out (placed (take k P) + i) (concat P)
stops-leaving_out k i [] h g = absurd (omega arith)
stops-leaving_out zero i (r ∷ P) h g = rw zero-add (sym (leaving_out-within i r (concat P) g))
stops-leaving_out (suc k) i (r ∷ P) h g =
    let e : length r + (placed (take k P) + i) ≡ placed (r ∷ take k P) + i = omega (arith, length-append r (concat (take k P))) in
    ap (λ (l : Route). r ++ l) (stops-leaving_out k i P (le_of_suc-le-suc h) g)
    ∙ sym (leaving_out-past r (placed (take k P) + i) (concat P))
    ∙ ap (λ (j : ℕ). leaving_out j (r ++ concat P)) e

lengths-leaving_out : (k i : ℕ) (P : Plan) → k < length P → i < length (route_of P k)
    → map length (change k (leaving_out i) P) ≡ set (map length P) k (length (route_of P k) - 1)
lengths-leaving_out k i [] h g = refl
lengths-leaving_out zero i (r ∷ P) h g = rw (length-leaving_out i r g)
lengths-leaving_out (suc k) i (r ∷ P) h g = rw (lengths-leaving_out k i P (le_of_suc-le-suc h) g)

-- ---- the two shifts of a stops area

-- stops, and places that are left
module _ (C : List ℕ) (m j : ℕ) where
  -- a stop goes in, and one place fewer is left
  shifted_in : (s : ℕ) (d : List ℕ) → d ≡ drop j C ++ replicate (suc m) unused → j ≤ length C
      → take j C ++ take (length d) (s ∷ d) ≡ put_in j s C ++ replicate m unused
  shifted_in s d e h =
      let l : length d ≡ suc (length (drop j C) + m) = rw e (simp (length-append, length-replicate) (omega arith)) in
      let t : take m (replicate (suc m) unused) ≡ replicate m unused = fewer m in
      rw (l, e, take-append-add, t, append_assoc)
    where
      fewer : (m : ℕ) → take m (replicate (suc m) unused) ≡ replicate m unused
      fewer zero = refl
      fewer (suc m) = ap (λ (l : List ℕ). unused ∷ l) (fewer m)

  -- a stop goes out, and one place more is left
  shifted-out : (d : List ℕ) → d ≡ drop j C ++ replicate m unused → j < length C
      → take j C ++ (drop 1 d ++ (unused ∷ [])) ≡ leaving_out j C ++ replicate (m + 1) unused
  shifted-out d e h =
      let g : drop 1 (drop j C ++ replicate m unused) ≡ drop (suc j) C ++ replicate m unused =
      drop-append-le 1 (drop j C) (replicate m unused) (omega (arith, length-drop j C)) ∙ rw (drop-drop, add-one)
      in
      rw (e, g, ← (replicate-append-replicate m 1 unused)) (simp append_assoc)

-- ---- the lent form

-- the lengths with another at k, and an area that is another plan's
changed : (n k : ℕ) (g : ℕ → ℕ) (P Q : Plan) (ys area : List ℕ) → k < length P → ys ≡ map length P ++ area
    → map length Q ≡ set (map length P) k (g (length (route_of P k))) → area ≡ concat Q ++ replicate (n - placed Q) unused
    → set ys k (g (get_or ys k 0)) ≡ encode n Q
unfolding encode
changed n k g P Q ys area h e el ea =
    let inside : k < length (map length P) = rw length-map h in
    let size : get_or ys k 0 ≡ length (route_of P k) = rw e (get_or-append (map length P) area 0 k inside ∙ get_or-lengths P k) in
    rw (size, e) (set-append_left (map length P) area k (g (length (route_of P k))) inside ∙ rw (el, ea))

-- the lent form, cut at a stop's place
module _ (n : ℕ) (P : Plan) (j : ℕ) (h : j ≤ placed P) where
  front : take (length P + j) (encode n P) ≡ map length P ++ take j (concat P)
  unfolding encode
  front =
      let e : length P + j ≡ length (map length P) + j = rw length-map in
      rw (e, take-append-add, take-append-le j (concat P) _ h)

  back : drop (length P + j) (encode n P) ≡ drop j (concat P) ++ replicate (n - placed P) unused
  unfolding encode
  back =
      let e : length P + j ≡ length (map length P) + j = rw length-map in
      rw (e, drop-append-add, drop-append-le j (concat P) _ h)

-- The length that the code reads is the route's own, and the shift from `at` on neither begins past the list nor touches that length.
pub record Reached (v n : ℕ) (xs : List ℕ) (k i at : ℕ) : Type 0 where
  pub size : length (route_of (decode v xs) k) ≡ get_or xs k 0
  pub within : at + get_or xs k 0 ≤ v + n + i
  pub kept : (y : List ℕ) → get_or (take at xs ++ (y ++ drop (length xs - at) (drop at xs))) k 0 ≡ get_or xs k 0

-- place i of route k, as the code computes it
module _ (v n : ℕ) (xs : List ℕ) (p : Lent v n xs) (k i at : ℕ) (h : k < v) (g : i ≤ length (route_of (decode v xs) k)) (e : at ≡ v + sum (take k xs) + i) where
  routes : length (decode v xs) ≡ v
  routes = lent_length v n xs p

  among : k < length (decode v xs)
  among = omega (arith, routes)

  size : length (route_of (decode v xs) k) ≡ get_or xs k 0
  size = route-length v n xs p.long p.fits k h

  within : at + get_or xs k 0 ≤ v + placed (decode v xs) + i
  within = omega (arith, placed-decode v n xs p.long p.fits, sum-upto xs k v h)

  pub reached : Reached v n xs k i at
  reached =
      let l : length (take at xs) ≡ at = length-take-le at xs (omega (arith, size, within, lent_placed v n xs p, p.long)) in
      record {
        size = size;
        within = omega (arith, within, lent_placed v n xs p);
        kept = λ y. get_or-append (take at xs) (y ++ drop (length xs - at) (drop at xs)) 0 k (omega arith) ∙ get_or-take at xs k 0 (omega arith);
      }

  -- its place among all stops
  j : ℕ
  j = placed (take k (decode v xs)) + i

  starts : sum (take k xs) ≡ placed (take k (decode v xs))
  starts = ap (λ (l : List ℕ). sum (take k l)) p.form ∙ encode-sum n (decode v xs) k (omega (arith, among))

  place : at ≡ length (decode v xs) + j
  unfolding j
  place = omega (arith, routes, starts)

  upto : j ≤ placed (decode v xs)
  unfolding j
  upto = omega (arith, starts, size, within)

  -- what stands before it and from it on
  before : take at xs ≡ map length (decode v xs) ++ take j (concat (decode v xs))
  before = ap₂ (λ (a : ℕ) (l : List ℕ). take a l) place p.form ∙ front n (decode v xs) j upto

  after : drop at xs ≡ drop j (concat (decode v xs)) ++ replicate (n - placed (decode v xs)) unused
  after = ap₂ (λ (a : ℕ) (l : List ℕ). drop a l) place p.form ∙ back n (decode v xs) j upto

  -- what the code leaves: y came back from the part that was lent
  module _ (y : List ℕ) where
    abbrev left : List ℕ
    left = take at xs ++ (y ++ drop (length xs - at) (drop at xs))

    in_parts : left ≡ map length (decode v xs) ++ (take j (concat (decode v xs)) ++ y)
    in_parts = lent-rest at xs y ∙ rw (before, append_assoc)

    pub put-form : (s : ℕ) → placed (decode v xs) < n
        → y ≡ take (length (take (length xs - at) (drop at xs))) (s ∷ take (length xs - at) (drop at xs))
        → set left k (get_or left k 0 + 1) ≡ encode n (placing s (decode v xs) k i)
    unfolding j
    put-form s f ey =
        let P : Plan = decode v xs in
        let m : ℕ = n - suc (placed P) in
        let em : n - placed P ≡ suc m = omega arith in
        let ey' : y ≡ take (length (drop at xs)) (s ∷ drop at xs) = rw part_end at ey in
        let lengths : map length (placing s P k i) ≡ set (map length P) k (length (route_of P k) + 1) =
        lengths-put_in k i s P ∙ change-set k suc (map length P) 0 (rw length-map among) ∙ rw (get_or-lengths, add-one)
        in
        let stops : concat (placing s P k i) ≡ put_in j s (concat P) = stops-put_in k i s P among g in
        let area : take j (concat P) ++ y ≡ concat (placing s P k i) ++ replicate (n - placed (placing s P k i)) unused =
        rw (ey', stops, length-put_in) (shifted_in (concat P) m j s (drop at xs) (after ∙ rw em) upto)
        in
        changed n k (λ x. x + 1) P (placing s P k i) left (take j (concat P) ++ y) among in_parts lengths area

    pub out-form : i < length (route_of (decode v xs) k) → y ≡ drop 1 (take (length xs - at) (drop at xs)) ++ (unused ∷ [])
        → set left k (get_or left k 0 - 1) ≡ encode n (change k (leaving_out i) (decode v xs))
    unfolding j
    out-form f ey =
        let P : Plan = decode v xs in
        let inside : j < placed P = omega (arith, starts, size, within) in
        let ey' : y ≡ drop 1 (drop at xs) ++ (unused ∷ []) = rw part_end at ey in
        let stops : concat (change k (leaving_out i) P) ≡ leaving_out j (concat P) = stops-leaving_out k i P among f in
        let fewer : n - placed P + 1 ≡ n - (placed P - 1) = omega (arith, lent_placed v n xs p) in
        let area : take j (concat P) ++ y ≡ concat (change k (leaving_out i) P) ++ replicate (n - placed (change k (leaving_out i) P)) unused =
        rw (ey', stops, length-leaving_out j (concat P) inside, ← fewer) (shifted-out (concat P) (n - placed P) j (drop at xs) after inside)
        in
        changed n k (λ x. x - 1) P (change k (leaving_out i) P) left (take j (concat P) ++ y) among in_parts (lengths-leaving_out k i P among f) area
