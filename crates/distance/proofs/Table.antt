-- Laws of the leg table's places and cells.
use mathlib.Core.Path.{◌≡◌, refl, sym, ap, ap₂, ◌∙◌}
use Prim.Native.Nat.{ℕ, ◌+◌, ◌-◌, ◌*◌, ◌/◌, ◌%◌, ◌≤◌, ◌<◌}
use native.Mathlib.Decide.{dec_lt}
use native.Mathlib.Omega.{arith}
use mathlib.Core.Bool.{Bool, true, false, cond, ◌&&◌, ◌||◌}
use mathlib.Core.Logic.{◌⊎◌, inl, inr, ⊎_elim}
use mathlib.Core.List.{List}
use lib.Dec.{leb, ltb}
use lib.ListN.{length, get_or, set, length-set, get_or-eq_default, replicate, length-replicate}
use lib.Seq.{get_or-set_same, get_or-set_other}
use borrow.Author.Count.{below_more}
use borrow.Author.Tests.{lt-ltb, le-ltb, le-leb, ltb-true, leb-true}
use Rattle.std.proofs.lemmas.List.{get_or-replicate}
use Rattle.model.specs.Job.{Job, job_of, vehicle_count, stop_count, entry, distance}
use Rattle.model.specs.Legs.{leaves, reaches, leg_at, IsPlace, LegTable}
use Rattle.model.specs.declared.Prices.{Prices}
use Rattle.distance.specs.Table.{InLimits, is_place, cell, start_at, end_at, between, EndsOf, Row, LegsOf}
use Rattle.distance.proofs.Laws.{leaves-stop, reaches-stop, leaves-vehicle, reaches-vehicle}

-- ---- places

lt-or-le : (a b : ℕ) → (a < b) ⊎ (b ≤ a)
lt-or-le a b = elim (dec_lt a b) [ yes h ↦ inl h | no h ↦ inr (omega arith) ]

module _ (v n p : ℕ) where
  pub place-cases : is_place v n p ≡ true → (p < n) ⊎ ((64 ≤ p) × (p < 64 + v))
  place-cases e = ⊎_elim inl (λ h. inr (not-stop (rw (le-ltb p n h) at e))) (lt-or-le p n)
    where
      both : (a b : Bool) → a && b ≡ true → (a ≡ true) × (b ≡ true)
      both true b e = (refl, e)
      both false b e = (e, absurd (absurd-false e))
        where
          absurd-false : false ≡ true → ⊥
          absurd-false e = let z : ◌≡◌ {A = ℕ} 0 1 = cc in omega arith

      not-stop : leb 64 p && ltb p (64 + v) ≡ true → (64 ≤ p) × (p < 64 + v)
      not-stop e =
          let s = both (leb 64 p) (ltb p (64 + v)) e in
          (leb-true 64 p s.0, ltb-true p (64 + v) s.1)

  pub place-holds : (p < n) ⊎ ((64 ≤ p) × (p < 64 + v)) → is_place v n p ≡ true
  place-holds (inl h) = simp (lt-ltb p n h)
  place-holds (inr h) = simp (le-leb 64 p h.0, lt-ltb p (64 + v) h.1) (or-true (ltb p n))
    where
      or-true : (b : Bool) → b || true ≡ true
      or-true true = refl
      or-true false = refl

  pub stop-place : p < 64 → is_place v n p ≡ true → p < n
  stop-place h e = ⊎_elim (λ k. k) (λ k. omega arith) (place-cases e)

  vehicle-place : 64 ≤ p → n ≤ 64 → is_place v n p ≡ true → p < 64 + v
  vehicle-place h s e = ⊎_elim (λ k. omega arith) (λ k. k.1) (place-cases e)

-- a vehicle's start and end stand in the list of both for each
pub vehicle-inside : (len n p : ℕ) → 64 ≤ p → n ≤ 64 → is_place (len / 2) n p ≡ true → 2 * (p - 64) + 1 < len
vehicle-inside len n p h s e = omega (arith, vehicle-place (len / 2) n p h s e)

-- ---- a list that is filled from the front: one element more
pub filled_more : (f : ℕ → ℕ) (xs : List ℕ) (i x : ℕ) → i < length xs → ((k : ℕ) → k < i → get_or xs k 0 ≡ f k) → x ≡ f i
    → (k : ℕ) → k < i + 1 → get_or (set xs i x) k 0 ≡ f k
filled_more f xs i x h below e =
    below_more (λ k. get_or (set xs i x) k 0 ≡ f k) i (λ k m. get_or-set_other xs i k x 0 (λ q. omega arith) ∙ below k m)
    (get_or-set_same xs i x 0 h ∙ e)

-- ---- where legs begin and end, and the metres between

module _ (J : Job) (a : ℕ) where
  pub start-there : is_place (vehicle_count J) (stop_count J) a ≡ true → start_at J a ≡ leaves J a
  unfolding start_at
  start-there h = ap (λ (t : Bool). cond t (leaves J a) J.locations) h

  pub start_none : is_place (vehicle_count J) (stop_count J) a ≡ false → start_at J a ≡ J.locations
  unfolding start_at
  start_none h = ap (λ (t : Bool). cond t (leaves J a) J.locations) h

  pub end-there : is_place (vehicle_count J) (stop_count J) a ≡ true → end_at J a ≡ reaches J a
  unfolding end_at
  end-there h = ap (λ (t : Bool). cond t (reaches J a) J.locations) h

  pub end_none : is_place (vehicle_count J) (stop_count J) a ≡ false → end_at J a ≡ J.locations
  unfolding end_at
  end_none h = ap (λ (t : Bool). cond t (reaches J a) J.locations) h

module _ (ds : List ℕ) (l a b : ℕ) where
  pub between-there : a < l → b < l → between ds l a b ≡ entry ds l a b
  unfolding between
  between-there h k = ap₂ (λ (s t : Bool). cond (s && t) (entry ds l a b) 0) (lt-ltb a l h) (lt-ltb b l k)

  pub between-no-from : l ≤ a → between ds l a b ≡ 0
  unfolding between
  between-no-from h = ap (λ (s : Bool). cond (s && ltb b l) (entry ds l a b) 0) (le-ltb a l h)

  pub between-no-to : a < l → l ≤ b → between ds l a b ≡ 0
  unfolding between
  between-no-to h k = ap₂ (λ (s t : Bool). cond (s && t) (entry ds l a b) 0) (lt-ltb a l h) (le-ltb b l k)

  pub between-small : ((i : ℕ) → get_or ds i 0 ≤ 200000) → between ds l a b ≤ 200000
  unfolding between entry
  between-small h = go (ltb a l && ltb b l)
    where
      go : (t : Bool) → cond t (entry ds l a b) 0 ≤ 200000
      go true = h (a * l + b)
      go false = omega arith

-- a table of zeros is one
pub legs-blank : LegTable (replicate 6400 0)
legs-blank = record { long = length-replicate {A = ℕ} 6400 0; small = λ i. go i (dec_lt i 6400) }
  where
    go : (i : ℕ) → Dec (i < 6400) → get_or (replicate 6400 0) i 0 ≤ 200000
    go i (yes h) = rw (get_or-replicate {A = ℕ} 6400 i 0 0 h) (omega arith)
    go i (no h) = rw (get_or-eq_default {A = ℕ} (replicate 6400 0) 0 {n = i} (omega (arith, length-replicate {A = ℕ} 6400 0))) (omega arith)

-- a leg table stays one where a cell of it is written
pub legs-set : (xs : List ℕ) (i x : ℕ) → LegTable xs → x ≤ 200000 → LegTable (set xs i x)
legs-set xs i x L h = record { long = length-set xs i x ∙ L.long; small = λ j. go j (dec_lt i (length xs)) (lt-or-le j i) (lt-or-le i j) }
  where
    go : (j : ℕ) → Dec (i < length xs) → (j < i) ⊎ (i ≤ j) → (i < j) ⊎ (j ≤ i) → get_or (set xs i x) j 0 ≤ 200000
    go j d (inl b) e = rw (get_or-set_other xs i j x 0 (λ q. omega arith)) (L.small j)
    go j d (inr b) (inl c) = rw (get_or-set_other xs i j x 0 (λ q. omega arith)) (L.small j)
    go j (yes k) (inr b) (inr c) = same j (omega arith)
      where
        same : (j : ℕ) → j ≡ i → get_or (set xs i x) j 0 ≤ 200000
        same j e = rw (e, get_or-set_same xs i x 0 k) h
    go j (no k) (inr b) (inr c) = rw (get_or-eq_default (set xs i x) 0 {n = j} (omega (arith, length-set xs i x))) (omega arith)

-- ---- a row that is filled from the front

module _ (ds : List ℕ) (l from : ℕ) (ends : List ℕ) (first : ℕ) where
  pub row-begins : (xs : List ℕ) → Row ds l from ends first 0 xs xs
  row-begins xs = record { long = refl; kept = λ k h. refl; row = λ k h. absurd (omega arith) }

  pub row_more : (m : ℕ) (xs ys : List ℕ) (x : ℕ) → Row ds l from ends first m xs ys → first + m < length ys
      → x ≡ between ds l from (get_or ends m 0) → Row ds l from ends first (m + 1) xs (set ys (first + m) x)
  row_more m xs ys x R h e =
      record {
        long = length-set ys (first + m) x ∙ R.long;
        kept = λ k b. get_or-set_other ys (first + m) k x 0 (λ q. omega arith) ∙ R.kept k b;
        row = below_more (λ k. get_or (set ys (first + m) x) (first + k) 0 ≡ between ds l from (get_or ends k 0)) m
            (λ k b. get_or-set_other ys (first + m) (first + k) x 0 (λ q. omega arith) ∙ R.row k b) (get_or-set_same ys (first + m) x 0 h ∙ e);
      }

-- ---- cells, of a job that these lists make

module _ (J : Job) (a b : ℕ) where
  pub cell-there : is_place (vehicle_count J) (stop_count J) a ≡ true → is_place (vehicle_count J) (stop_count J) b ≡ true
      → cell J a b ≡ distance J (leaves J a) (reaches J b)
  unfolding cell
  cell-there h k = ap₂ (λ (s t : Bool). cond (s && t) (distance J (leaves J a) (reaches J b)) 0) h k

  pub cell-no-from : is_place (vehicle_count J) (stop_count J) a ≡ false → cell J a b ≡ 0
  unfolding cell
  cell-no-from h =
      ap (λ (t : Bool). cond (t && is_place (vehicle_count J) (stop_count J) b) (distance J (leaves J a) (reaches J b)) 0) h

  pub cell-no-to : is_place (vehicle_count J) (stop_count J) a ≡ true → is_place (vehicle_count J) (stop_count J) b ≡ false → cell J a b ≡ 0
  unfolding cell
  cell-no-to h k = ap₂ (λ (s t : Bool). cond (s && t) (distance J (leaves J a) (reaches J b)) 0) h k

  pub cell-small : ((i : ℕ) → get_or J.distances i 0 ≤ 200000) → cell J a b ≤ 200000
  unfolding cell entry
  cell-small h = go (is_place (vehicle_count J) (stop_count J) a && is_place (vehicle_count J) (stop_count J) b)
    where
      go : (t : Bool) → cond t (distance J (leaves J a) (reaches J b)) 0 ≤ 200000
      go true = h (leaves J a * J.locations + reaches J b)
      go false = omega arith

-- the first i rows of the leg table are filled
pub record Rows (vs ss : List ℕ) (l : ℕ) (ds : List ℕ) (i : ℕ) (legs : List ℕ) : Type 0 where
  pub few : i ≤ 80
  pub long : length legs ≡ 6400
  pub cells : (p : Prices) (k : ℕ) → k < 80 * i → get_or legs k 0 ≡ cell (job_of vs ss l ds p) (k / 80) (k % 80)

module _ (vs ss : List ℕ) (l : ℕ) (ds : List ℕ) (I : InLimits vs ss l ds) where
  module _ (p : Prices) (a : ℕ) (h : is_place (length vs / 2) (length ss) a ≡ true) where
    vehicle-ends : 64 ≤ a → 2 * (a - 64) + 1 < length vs
    vehicle-ends s = vehicle-inside (length vs) (length ss) a s I.stops h

    stop-below : a < 64 → get_or ss a 0 < l
    stop-below s = I.places a (stop-place (length vs / 2) (length ss) a s h)

    pub leaves-below : leaves (job_of vs ss l ds p) a < l
    leaves-below =
        ⊎_elim (λ s. rw (leaves-stop (job_of vs ss l ds p) a s) (stop-below s))
        (λ s. rw (leaves-vehicle (job_of vs ss l ds p) a s) (I.ends (2 * (a - 64)) (omega (arith, vehicle-ends s)))) (lt-or-le a 64)

    pub reaches-below : reaches (job_of vs ss l ds p) a < l
    reaches-below =
        ⊎_elim (λ s. rw (reaches-stop (job_of vs ss l ds p) a s) (stop-below s))
        (λ s. rw (reaches-vehicle (job_of vs ss l ds p) a s) (I.ends (2 * (a - 64) + 1) (vehicle-ends s))) (lt-or-le a 64)

  -- the metres from where a leg begins to where it ends are the cell, also where it leads from or to no place
  cell-between : (p : Prices) (a b : ℕ) → between ds l (start_at (job_of vs ss l ds p) a) (end_at (job_of vs ss l ds p) b) ≡ cell (job_of vs ss l ds p) a b
  cell-between p a b = go (is_place (length vs / 2) (length ss) a) (is_place (length vs / 2) (length ss) b) refl refl
    where
      J : Job
      J = job_of vs ss l ds p

      go : (s t : Bool) → is_place (length vs / 2) (length ss) a ≡ s → is_place (length vs / 2) (length ss) b ≡ t
          → between ds l (start_at J a) (end_at J b) ≡ cell J a b
      go true true A B =
          ap₂ (between ds l) (start-there J a A) (end-there J b B)
          ∙ between-there ds l (leaves J a) (reaches J b) (leaves-below p a A) (reaches-below p b B)
          ∙ sym (cell-there J a b A B)
      go true false A B =
          ap₂ (between ds l) (start-there J a A) (end_none J b B)
          ∙ between-no-to ds l (leaves J a) l (leaves-below p a A) (omega arith)
          ∙ sym (cell-no-to J a b A B)
      go false t A B =
          ap (λ (x : ℕ). between ds l x (end_at J b)) (start_none J a A)
          ∙ between-no-from ds l l (end_at J b) (omega arith)
          ∙ sym (cell-no-from J a b A)

  -- one row more
  module _ (i from : ℕ) (ends xs ys : List ℕ) where
    pub rows_more : Rows vs ss l ds i xs → i < 80 → ((p : Prices) → from ≡ start_at (job_of vs ss l ds p) i)
        → ((p : Prices) → EndsOf (job_of vs ss l ds p) 80 ends) → Row ds l from ends (80 * i) 80 xs ys → Rows vs ss l ds (i + 1) ys
    rows_more P h S E R =
        record {
          few = omega arith;
          long = R.long ∙ P.long;
          cells = λ p k b. ⊎_elim (λ c. R.kept k c ∙ P.cells p k c) (λ c. new p k c (omega arith)) (lt-or-le k (80 * i));
        }
      where
        new : (p : Prices) (k : ℕ) → 80 * i ≤ k → k < 80 * i + 80 → get_or ys k 0 ≡ cell (job_of vs ss l ds p) (k / 80) (k % 80)
        new p k c b =
            ap (λ (x : ℕ). get_or ys x 0) (omega arith)
            ∙ R.row (k - 80 * i) (omega arith)
            ∙ ap₂ (between ds l) (S p) (E p (k - 80 * i) (omega arith))
            ∙ cell-between p i (k - 80 * i)
            ∙ ap₂ (cell (job_of vs ss l ds p)) (omega arith) (omega arith)

  -- a list whose every element is its cell is the leg table
  module _ (table : List ℕ) (long : length table ≡ 6400)
      (at : (p : Prices) (i : ℕ) → i < 6400 → get_or table i 0 ≡ cell (job_of vs ss l ds p) (i / 80) (i % 80)) where
    cells : (p : Prices) (a b : ℕ) → a < 80 → b < 80 → leg_at table a b ≡ cell (job_of vs ss l ds p) a b
    unfolding entry
    cells p a b h k =
        at p (a * 80 + b) (omega arith)
        ∙ ap₂ (cell (job_of vs ss l ds p)) (omega arith) (omega arith)

    place-small : (p : Prices) (a : ℕ) → IsPlace (job_of vs ss l ds p) a → a < 80
    place-small p a (inl h) = omega (arith, I.stops)
    place-small p a (inr h) = omega (arith, I.vehicles)

    pub legs-of : LegsOf vs ss l ds table
    legs-of =
        record {
          legs = record { long = long; small = small };
          fits = λ p.
              record {
                vehicles = refl;
                stops = refl;
                prices = refl;
                leg = λ a b A B.
                    cells p a b (place-small p a A) (place-small p b B)
                    ∙ cell-there (job_of vs ss l ds p) a b (place-holds (length vs / 2) (length ss) a A) (place-holds (length vs / 2) (length ss) b B);
              };
          cells = cells;
        }
      where
        free : Prices
        free = record { linear = 0; quadratic = 0; missed = 0 }

        small : (i : ℕ) → get_or table i 0 ≤ 200000
        small i =
            ⊎_elim (λ h. rw (at free i h) (cell-small (job_of vs ss l ds free) (i / 80) (i % 80) I.short))
            (λ h. rw (get_or-eq_default table 0 {n = i} (omega arith)) (omega arith)) (lt-or-le i 6400)
