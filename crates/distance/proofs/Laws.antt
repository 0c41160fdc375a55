-- Laws of the ways over a leg table: parts of a route and the legs that join them, a way gone backwards, the upper bound, and the job's own lengths.
use mathlib.Core.Path.{◌≡◌, refl, ap, ap₂, ◌∙◌}
use Prim.Native.Nat.{ℕ, ◌+◌, ◌-◌, ◌*◌, ◌≤◌, ◌<◌}
use native.Mathlib.Omega.{arith}
use native.Mathlib.Numerals.{add-one}
use mathlib.Core.Logic.{inl, inr}
use mathlib.Core.List.{List, [], ◌∷◌, ◌++◌, reverse, reverse-cons}
use lib.ListN.{length, get_or, take, drop, length-take, length-drop, drop_of_length-le}
use lib.Seq.{drop-cons, take-suc}
use borrow.Author.Tests.{lt-ltb, le-ltb, eq-eqb}
use Rattle.model.specs.Job.{Job, start_of, end_of, location_of, distance}
use Rattle.model.specs.Plan.{Route}
use Rattle.model.specs.Legs.{leaves, reaches, leg_at, depot, IsPlace, LegTable, Fits}
use Rattle.model.specs.Cost.{legs, route_length}
use Rattle.model.specs.declared.Prices.{Prices}
use Rattle.model.proofs.Lists.{one_same}
use Rattle.model.proofs.Cost.{entry-le}
use Rattle.model.proofs.Counts.{count-take-le, count-drop-le}
use Rattle.distance.specs.Ways.{table_legs, walked, walked_back, last_place, Below, Drivable, RouteLength}

-- ---- stops of a route

below-head : (n s : ℕ) (r : Route) → Below n (s ∷ r) → s < n
below-head n s r h = h s (rw (eq-eqb s s refl) (omega arith))

below-tail : (n s : ℕ) (r : Route) → Below n (s ∷ r) → Below n r
below-tail n s r h x k = h x (omega arith)

-- ---- one leg

pub leg-small : (t : List ℕ) (a b : ℕ) → LegTable t → leg_at t a b ≤ 200000
leg-small t a b h = entry-le t 80 200000 h.small a b

module _ (J : Job) (p : ℕ) where
  pub leaves-stop : p < 64 → leaves J p ≡ location_of J p
  unfolding leaves
  leaves-stop h = simp (lt-ltb p 64 h)

  pub reaches-stop : p < 64 → reaches J p ≡ location_of J p
  unfolding reaches
  reaches-stop h = simp (lt-ltb p 64 h)

  pub leaves-vehicle : 64 ≤ p → leaves J p ≡ start_of J (p - 64)
  unfolding leaves
  leaves-vehicle h = simp (le-ltb p 64 h)

  pub reaches-vehicle : 64 ≤ p → reaches J p ≡ end_of J (p - 64)
  unfolding reaches
  reaches-vehicle h = simp (le-ltb p 64 h)

-- ---- ways over the table

module _ (t : List ℕ) where
  -- a way is the way to its last stop and the leg from there
  pub way-last : (a : ℕ) (xs : Route) (b : ℕ) → table_legs t a xs b ≡ walked t a xs + leg_at t (last_place a xs) b
  unfolding table_legs walked
  way-last a [] b = omega arith
  way-last a (s ∷ xs) b = omega (arith, way-last s xs b)

  -- at a stop: the way to it, and the way from it on
  pub way-split : (a : ℕ) (xs : Route) (s : ℕ) (ys : Route) (b : ℕ)
      → table_legs t a (xs ++ s ∷ ys) b ≡ table_legs t a xs s + table_legs t s ys b
  unfolding table_legs
  way-split a [] s ys b = refl
  way-split a (x ∷ xs) s ys b = omega (arith, way-split x xs s ys b)

  -- two parts, the second from the last stop of the first
  pub way-append : (a : ℕ) (xs ys : Route) (b : ℕ) → table_legs t a (xs ++ ys) b ≡ walked t a xs + table_legs t (last_place a xs) ys b
  unfolding table_legs walked
  way-append a [] ys b = omega arith
  way-append a (x ∷ xs) ys b = omega (arith, way-append x xs ys b)

  pub walked-append : (a : ℕ) (xs ys : Route) → walked t a (xs ++ ys) ≡ walked t a xs + walked t (last_place a xs) ys
  unfolding walked
  walked-append a [] ys = omega arith
  walked-append a (x ∷ xs) ys = omega (arith, walked-append x xs ys)

  pub back-append : (a : ℕ) (xs ys : Route) → walked_back t a (xs ++ ys) ≡ walked_back t a xs + walked_back t (last_place a xs) ys
  unfolding walked_back
  back-append a [] ys = omega arith
  back-append a (x ∷ xs) ys = omega (arith, back-append x xs ys)

  -- a reversed route: the leg to what was its last stop, and the way back from there
  pub way-reverse : (a : ℕ) (xs : Route) (b : ℕ) → table_legs t a (reverse xs) b ≡ leg_at t a (last_place b xs) + walked_back t b xs
  unfolding table_legs walked_back
  way-reverse a [] b = omega arith
  way-reverse a (x ∷ xs) b =
      ap (λ (r : Route). table_legs t a r b) (reverse-cons x xs) ∙ omega (arith, way-split a (reverse xs) x [] b, way-reverse a xs x)

  -- a way has a leg more than it has stops
  pub way-small : LegTable t → (a : ℕ) (xs : Route) (b : ℕ) → table_legs t a xs b ≤ (length xs + 1) * 200000
  unfolding table_legs
  way-small h a [] b = leg-small t a b h
  way-small h a (x ∷ xs) b = omega (arith, leg-small t a x h, way-small h x xs b)

  pub walked-small : LegTable t → (a : ℕ) (xs : Route) → walked t a xs ≤ length xs * 200000
  unfolding walked
  walked-small h a [] = omega arith
  walked-small h a (x ∷ xs) = omega (arith, leg-small t a x h, walked-small h x xs)

  pub back-small : LegTable t → (a : ℕ) (xs : Route) → walked_back t a xs ≤ length xs * 200000
  unfolding walked_back
  back-small h a [] = omega arith
  back-small h a (x ∷ xs) = omega (arith, leg-small t x a h, back-small h x xs)

-- the last place of two parts
pub last-append : (a : ℕ) (xs ys : Route) → last_place a (xs ++ ys) ≡ last_place (last_place a xs) ys
last-append a [] ys = refl
last-append a (x ∷ xs) ys = last-append x xs ys

-- one stop more of those passed: the sums of a route's legs, stop by stop
pub last_more : (a : ℕ) (r : Route) (i : ℕ) → i < length r → last_place a (take (i + 1) r) ≡ get_or r i 0
last_more a r i h = rw (add-one, take-suc r i 0, last-append)

module _ (t : List ℕ) (a : ℕ) (r : Route) (i : ℕ) (h : i < length r) where
  pub walked_more : walked t a (take (i + 1) r) ≡ walked t a (take i r) + leg_at t (last_place a (take i r)) (get_or r i 0)
  unfolding walked
  walked_more = rw (add-one, take-suc r i 0, walked-append) (omega arith)

-- the way from the stop at i on
module _ (t : List ℕ) (here : ℕ) (r : Route) (to i : ℕ) where
  pub onward : i < length r → table_legs t here (drop i r) to ≡ leg_at t here (get_or r i 0) + table_legs t (get_or r i 0) (drop (i + 1) r) to
  unfolding table_legs
  onward h = rw (add-one, drop-cons r i 0)

  pub onward-end : length r ≤ i → table_legs t here (drop i r) to ≡ leg_at t here to
  unfolding table_legs
  onward-end h = rw (drop_of_length-le r h)

-- ---- the job's own lengths

-- over a table that fits the job, between its places, through its stops
module _ (J : Job) (t : List ℕ) (v n : ℕ) (p : Prices) (F : Fits J t v n p) where
  stop-place : (s : ℕ) → s < n → IsPlace J s
  stop-place s h = inl (rw F.stops h)

  pub depot-place : (k : ℕ) → k < v → IsPlace J (depot k)
  depot-place k h = inr (rw F.vehicles (omega arith, omega arith))

  pub way-legs : (a : ℕ) (r : Route) (b : ℕ) → IsPlace J a → IsPlace J b → Below n r → Below 64 r
      → table_legs t a r b ≡ legs J (leaves J a) r (reaches J b)
  unfolding table_legs legs
  way-legs a [] b A B N S = F.leg a b A B
  way-legs a (s ∷ r) b A B N S =
      let h : s < 64 = below-head 64 s r S in
      let P : IsPlace J s = stop-place s (below-head n s r N) in
      ap₂ ◌+◌ (F.leg a s A P ∙ ap (distance J (leaves J a)) (reaches-stop J s h))
      (way-legs s r b P B (below-tail n s r N) (below-tail 64 s r S) ∙ ap (λ (x : ℕ). legs J x r (reaches J b)) (leaves-stop J s h))

  -- the length of a vehicle's route
  pub way-route : (k : ℕ) (r : Route) → k < v → Below n r → Below 64 r → table_legs t (depot k) r (depot k) ≡ route_length J k r
  unfolding route_length
  way-route k r h N S =
      way-legs (depot k) r (depot k) (depot-place k h) (depot-place k h) N S
      ∙ ap₂ (λ (x y : ℕ). legs J x r y) (leaves-vehicle J (depot k) (omega arith) ∙ ap (start_of J) (omega arith))
      (reaches-vehicle J (depot k) (omega arith) ∙ ap (end_of J) (omega arith))

-- what `route_length` ensures, from the way over the table
pub route-length-is : (t : List ℕ) (k : ℕ) (r : Route) (d : ℕ) → LegTable t → Drivable r
    → d ≡ table_legs t (depot k) r (depot k) → RouteLength t k r d
route-length-is t k r d h D e =
    record {
      small = omega (arith, way-small t h (depot k) r (depot k), D.few);
      way = e;
      job = λ J v n p F K N. e ∙ way-route J t v n p F k r K N D.stops;
    }

-- ---- routes within the table

-- the last place of a way is a place of the table
pub last-near : (a : ℕ) (r : Route) → a < 80 → Below 64 r → last_place a r < 80
last-near a [] h b = h
last-near a (s ∷ r) h b = last-near s r (omega (arith, b s (omega (arith, one_same s s refl)))) (λ x k. b x (omega arith))

pub drivable-take : (k : ℕ) (r : Route) → Drivable r → Drivable (take k r)
drivable-take k r d = record { few = omega (arith, length-take k r, d.few); stops = λ s h. d.stops s (omega (arith, count-take-le s k r)) }

pub drivable-drop : (k : ℕ) (r : Route) → Drivable r → Drivable (drop k r)
drivable-drop k r d = record { few = omega (arith, length-drop k r, d.few); stops = λ s h. d.stops s (omega (arith, count-drop-le s k r)) }
