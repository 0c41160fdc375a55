-- The length of a route with a stop put in at a place, from the legs around that place.
use mathlib.Core.Path.{◌≡◌, refl, sym, ap, ◌∙◌}
use Prim.Native.Nat.{ℕ, zero, suc, ◌+◌, ◌-◌, ◌≤◌, ◌<◌}
use native.Mathlib.Nat.{le_of_suc-le-suc}
use native.Mathlib.Omega.{arith}
use mathlib.Core.List.{List, [], ◌∷◌, ◌++◌}
use lib.ListN.{length, get_or, take, drop, take-append-drop}
use Rattle.model.specs.Plan.{Route}
use Rattle.model.specs.Legs.{leg_at, depot, LegTable}
use Rattle.model.specs.Live.{put_in}
use Rattle.model.proofs.Live.{length-put_in}
use Rattle.distance.specs.Ways.{table_legs, last_place}
use Rattle.distance.proofs.Laws.{last_more, way-last, way-split, way-append, way-small}
use Rattle.arrival.specs.Places.{Insertable}

-- ---- the places around a place of a route

-- where a vehicle that starts at a comes from
pub comes-first : (a : ℕ) (r : Route) (i : ℕ) → i ≡ 0 → a ≡ last_place a (take i r)
comes-first a r i e = rw e

pub comes-later : (a : ℕ) (r : Route) (i : ℕ) → 0 < i → i ≤ length r → get_or r (i - 1) 0 ≡ last_place a (take i r)
comes-later a r i h k =
    let e : i - 1 + 1 ≡ i = omega arith in
    sym (last_more a r (i - 1) (omega arith)) ∙ ap (λ (j : ℕ). last_place a (take j r)) e

-- where it goes on to: d stands for the end
pub at_place : (r : Route) (i d : ℕ) → i < length r → get_or r i 0 ≡ get_or r i d
at_place [] i d h = absurd (omega arith)
at_place (s ∷ r) zero d h = refl
at_place (s ∷ r) (suc i) d h = at_place r i d (le_of_suc-le-suc h)

pub at-end : (r : Route) (i d : ℕ) → length r ≤ i → d ≡ get_or r i d
at-end [] i d h = refl
at-end (s ∷ r) zero d h = absurd (omega arith)
at-end (s ∷ r) (suc i) d h = at-end r i d (le_of_suc-le-suc h)

-- ---- the way through a place

module _ (t : List ℕ) where
  -- a way that begins elsewhere has another first leg
  way-begin : (a b : ℕ) (r : Route) (i to : ℕ)
      → table_legs t a (drop i r) to + leg_at t b (get_or r i to) ≡ table_legs t b (drop i r) to + leg_at t a (get_or r i to)
  unfolding table_legs
  way-begin a b [] zero to = omega arith
  way-begin a b [] (suc i) to = omega arith
  way-begin a b (s ∷ r) zero to = omega arith
  way-begin a b (s ∷ r) (suc i) to = way-begin a b r i to

  -- two legs come, one goes
  pub way-put_in : (a : ℕ) (r : Route) (i s to : ℕ)
      → table_legs t a (put_in i s r) to + leg_at t (last_place a (take i r)) (get_or r i to)
      ≡ table_legs t a r to + leg_at t (last_place a (take i r)) s + leg_at t s (get_or r i to)
  way-put_in a r i s to =
      let e : table_legs t a (take i r ++ drop i r) to ≡ table_legs t a r to = ap (λ (q : Route). table_legs t a q to) (take-append-drop i r) in
      omega (
        arith,
        way-split t a (take i r) s (drop i r) to,
        way-last t a (take i r) s,
        way-append t a (take i r) (drop i r) to,
        way-begin s (last_place a (take i r)) r i to,
      )

-- what `length_with` adds up
module _ {t : List ℕ} (L : LegTable t) {k : ℕ} {r : Route} {d i s : ℕ} (I : Insertable t k r d i s) where
  pub old-small : d ≤ 13000000
  old-small = omega (arith, I.way, way-small t L (depot k) r (depot k), I.route.few)

  pub new-small : table_legs t (depot k) (put_in i s r) (depot k) ≤ 16000000
  new-small = omega (arith, way-small t L (depot k) (put_in i s r) (depot k), length-put_in i s r, I.route.few)

  module _ (from to : ℕ) (a : from ≡ last_place (depot k) (take i r)) (b : to ≡ get_or r i (depot k)) where
    pub inserted : table_legs t (depot k) (put_in i s r) (depot k) + leg_at t from to ≡ d + leg_at t from s + leg_at t s to
    inserted = rw (a, b, I.way) (way-put_in t (depot k) r i s (depot k))
