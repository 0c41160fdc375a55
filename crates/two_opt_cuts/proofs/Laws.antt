-- Laws of the ends of routes.
use mathlib.Core.Path.{◌≡◌, refl, sym, ap, ◌∙◌}
use Prim.Native.Nat.{ℕ, ◌+◌, ◌-◌, ◌≤◌, ◌<◌}
use native.Mathlib.Omega.{arith}
use native.Mathlib.Numerals.{add-one}
use mathlib.Core.List.{List, [], ◌∷◌, ◌++◌, reverse, reverse-cons, reverse-reverse, append_assoc, append-nil}
use borrow.Author.Tests.{eq-eqb}
use Rattle.std.specs.Prelude.{Option, Some, None}
use Rattle.std.specs.Iterator.{AlwaysYields}
use lib.ListN.{length, get_or, take, drop, length-append, length-take, length-drop, length-reverse}
use lib.Seq.{take-suc, drop-cons}
use Rattle.model.specs.Plan.{Route}
use Rattle.model.specs.Legs.{leg_at, depot, LegTable}
use Rattle.model.specs.Lists.{count}
use Rattle.model.proofs.Counts.{count-reverse}
use Rattle.model.proofs.Lists.{take-reverse, drop-reverse, count-append}
use Rattle.distance.specs.Ways.{table_legs, walked, walked_back, last_place, Below, Drivable}
use Rattle.distance.proofs.Laws.{last-near, drivable-take, drivable-drop, walked-append, back-append, last-append, walked-small, back-small, way-append, way-reverse}
use Rattle.two_opt_cuts.specs.declared.End.{End}
use Rattle.two_opt_cuts.specs.declared.Ends.{Ends}
use Rattle.two_opt_cuts.specs.declared.Cut.{Cut}
use Rattle.two_opt_cuts.specs.Ends.{EndOf, EndsOf, Short, Shorts, CutAt}

-- ---- stop by stop

module _ (t : List ℕ) (k : ℕ) where
  pub end_none : EndOf t k [] (record { joint = 64 + k; out = 0; back = 0 })
  unfolding walked walked_back
  end_none = record { joint = refl; out = refl; back = refl }

  pub end_more : (xs : Route) (s x y : ℕ) (e : End) → x ≡ leg_at t e.joint s → y ≡ leg_at t s e.joint → EndOf t k xs e
      → EndOf t k (xs ++ s ∷ []) (record { joint = s; out = e.out + x; back = e.back + y })
  unfolding walked walked_back
  end_more xs s x y e ex ey E = record {
    joint = sym (last-append (depot k) xs (s ∷ []));
    out = omega (arith, E.out, ex ∙ ap (λ (z : ℕ). leg_at t z s) E.joint, walked-append t (depot k) xs (s ∷ []));
    back = omega (arith, E.back, ey ∙ ap (leg_at t s) E.joint, back-append t (depot k) xs (s ∷ []));
  }

-- ---- few stops

module _ {t : List ℕ} (h : LegTable t) where
  end_short : {k : ℕ} {xs : Route} {e : End} (m : ℕ) → k < 16 → Below 64 xs → length xs ≤ m → EndOf t k xs e → Short m e
  end_short {k} {xs} {e} m hk b l E = record {
    near = omega (arith, E.joint, last-near (depot k) xs (omega arith) b);
    out = omega (arith, E.out, walked-small t h (depot k) xs);
    back = omega (arith, E.back, back-small t h (depot k) xs);
  }

  pub ends-short : {a b : ℕ} {xs : Route} {e : Ends} (m : ℕ) → a < 16 → b < 16 → Below 64 xs → length xs ≤ m → EndsOf t a b xs e → Shorts m e
  ends-short m ha hb b l E = (end_short m ha b l E.0, end_short m hb b l E.1)

-- from the front up to i or from the back down to i

module _ (t : List ℕ) (a b : ℕ) (r : Route) (i : ℕ) {e : Ends} where
  pub head_more : i < length r → EndsOf t a b (take i r ++ get_or r i 0 ∷ []) e → EndsOf t a b (take (i + 1) r) e
  head_more h E = rw (add-one, take-suc r i 0) E

  pub tail_more : i < length r → EndsOf t a b (reverse (drop (i + 1) r) ++ get_or r i 0 ∷ []) e → EndsOf t a b (reverse (drop i r)) e
  tail_more h E = rw (drop-cons r i 0, reverse-cons) (rw add-one at E)

  module _ (h : LegTable t) (ha : a < 16) (hb : b < 16) (D : Drivable r) where
    pub head-room : i < length r → EndsOf t a b (take i r) e → Shorts 63 e
    head-room l = ends-short h 63 ha hb (drivable-take i r D).stops (omega (arith, length-take i r, D.few))

    pub tail-room : 0 < i → i ≤ length r → EndsOf t a b (reverse (drop i r)) e → Shorts 63 e
    tail-room l m =
        ends-short h 63 ha hb (λ s k. (drivable-drop i r D).stops s (omega (arith, count-reverse s (drop i r))))
        (rw length-reverse (omega (arith, length-drop i r, D.few)))

-- ---- along what an iterator gives: v reads an item

module _ {S A : Type 0} (steps : S → Option A → S → Type 0) (v : A → ℕ) (t : List ℕ) (a b : ℕ) (xs : Route) where
  -- a walk over xs that has come to s: what is passed, and what is left
  pub record Walk (s : S) (e : Ends) : Type 0 where
    pub passed : Route
    pub left : Route
    pub whole : passed ++ left ≡ xs
    pub more : AlwaysYields steps v s left
    pub ends : EndsOf t a b passed e

  pub walk_start : {s : S} {e : Ends} → AlwaysYields steps v s xs → EndsOf t a b [] e → Walk s e
  walk_start m E = record { passed = []; left = xs; whole = refl; more = m; ends = E }

  next-left : {s s' : S} {x : A} (left : Route) → AlwaysYields steps v s left → steps s (Some x) s'
      → (ys : Route) × (left ≡ v x ∷ ys) × AlwaysYields steps v s' ys
  next-left {s} {s'} {x} [] m h = absurd (m x s' h)
  next-left {s} {s'} {x} (y ∷ ys) m h = let p = m.1 x s' h in (ys, ap (λ z. z ∷ ys) (sym p.0), p.1)

  none-left : {s s' : S} (left : Route) → AlwaysYields steps v s left → steps s None s' → left ≡ []
  none-left [] m h = refl
  none-left {s} {s'} (y ∷ ys) m h = absurd (m.0 s' h)

  module _ {s : S} {e : Ends} (W : Walk s e) where
    -- another stop
    module _ {s' : S} {x : A} (h : steps s (Some x) s') where
      pub walk_more : {f : Ends} → EndsOf t a b (W.passed ++ v x ∷ []) f → Walk s' f
      walk_more E =
          let N = next-left {s = s} {s' = s'} {x = x} W.left W.more h in
          record { passed = W.passed ++ v x ∷ []; left = N.0; whole = append_assoc W.passed (v x ∷ []) N.0 ∙ ap (λ r. W.passed ++ r) (sym N.1) ∙ W.whole; more = N.2; ends = E }

      module _ (D : Drivable xs) where
        pub walk-stop : v x < 64
        walk-stop =
            let N = next-left {s = s} {s' = s'} {x = x} W.left W.more h in
            let c : 1 ≤ count (v x) (v x ∷ N.0) = rw (eq-eqb (v x) (v x) refl) (omega arith) in
            D.stops (v x) (omega (arith, c, ap (count (v x)) W.whole, ap (count (v x)) N.1, count-append (v x) W.passed W.left))

        pub walk-room : LegTable t → a < 16 → b < 16 → Shorts 63 e
        walk-room T ha hb =
            let N = next-left {s = s} {s' = s'} {x = x} W.left W.more h in
            ends-short T 63 ha hb (λ y k. D.stops y (omega (arith, k, ap (count y) W.whole, count-append y W.passed W.left)))
            (omega (arith, D.few, ap length W.whole, ap length N.1, length-append W.passed W.left)) W.ends

    -- no stop more
    pub walk-over : {s' : S} → steps s None s' → EndsOf t a b xs e
    walk-over {s'} h =
        let n = none-left {s = s} {s' = s'} W.left W.more h in
        let e : W.passed ≡ xs = sym (append-nil W.passed) ∙ ap (λ r. W.passed ++ r) (sym n) ∙ W.whole in
        rw e at W.ends

-- ---- cuts

pub drivable-reverse : (xs : Route) → Drivable xs → Drivable (reverse xs)
drivable-reverse xs D = record { few = rw length-reverse D.few; stops = λ s k. D.stops s (omega (arith, count-reverse s xs)) }

module _ {t : List ℕ} {a b : ℕ} {r : Route} {c : Cut} where
  -- a reversed route has its tail for a head
  pub cut-reversed : (i k : ℕ) → k + i ≡ length r → CutAt t a b r i c → CutAt t a b (reverse r) k (record { head = c.tail; tail = c.head })
  cut-reversed i k e C =
      let l : k ≤ length r = omega arith in
      let d : length r - k ≡ i = omega arith in
      record { head = rw (take-reverse k r l, d) C.tail; tail = rw (drop-reverse k r l, d, reverse-reverse) C.head }

  -- its ends are short
  pub head-short : (i : ℕ) → LegTable t → a < 16 → b < 16 → Drivable r → CutAt t a b r i c → Shorts (length (take i r)) c.head
  head-short i h ha hb D C = ends-short h (length (take i r)) ha hb (drivable-take i r D).stops (omega arith) C.head

  pub tail-short : (i : ℕ) → LegTable t → a < 16 → b < 16 → Drivable r → CutAt t a b r i c → Shorts (length (drop i r)) c.tail
  tail-short i h ha hb D C =
      ends-short h (length (drop i r)) ha hb (λ s k. (drivable-drop i r D).stops s (omega (arith, count-reverse s (drop i r)))) (rw length-reverse (omega arith)) C.tail

-- a head and a tail make the length of the route that is joined of them
pub joined-way : (t : List ℕ) (k : ℕ) (xs ys : Route) (h e : End) → EndOf t k xs h → EndOf t k (reverse ys) e
    → h.out + leg_at t h.joint e.joint + e.back ≡ table_legs t (depot k) (xs ++ ys) (depot k)
joined-way t k xs ys h e H E =
    let w : table_legs t (last_place (depot k) xs) ys (depot k) ≡ leg_at t (last_place (depot k) xs) (last_place (depot k) (reverse ys)) + walked_back t (depot k) (reverse ys) =
    rw reverse-reverse at (way-reverse t (last_place (depot k) xs) (reverse ys) (depot k))
    in
    rw (H.joint, H.out, E.joint, E.back) (omega (arith, way-append t (depot k) xs ys (depot k)))
