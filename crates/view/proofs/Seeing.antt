-- What the loops over the routes of a plan have written: the view of the routes that they have passed.
use Prim.Native.Nat.{ℕ, ◌+◌, ◌-◌, ◌<◌, ◌≤◌}
use native.Mathlib.Omega.{arith}
use native.Mathlib.Numerals.{add-one}
use mathlib.Core.Path.{◌≡◌, refl, sym, ap, ◌∙◌}
use mathlib.Core.Bool.{true, false}
use mathlib.Core.List.{List, [], ◌∷◌, ◌++◌, map, append-nil}
use lib.ListN.{length, take, drop, set, replicate, length-append, length-drop, length-set, length-map, take-append-drop}
use lib.Seq.{take-suc, take-suc-set, take_all, take_at, length-take-le}
use Rattle.model.specs.Lists.{concat}
use Rattle.model.specs.Plan.{Plan, Route, route_of, placed, unused, encode}
use Rattle.model.specs.StopSet.{contains}
use Rattle.model.specs.Vans.{view_from, view}
use Rattle.model.proofs.Lists.{map-append, concat-append, part_end}
use Rattle.pasting.specs.Put.{put, area_of}
use Rattle.pasting.proofs.Put.{take_put, length-put, lent-rest}
use Rattle.view.proofs.Views.{seen, view-more}

-- the view of the first k routes
abbrev pub upto : Plan → ℕ → ℕ → Plan
upto P vans k = view vans (take k P)

module _ (v : ℕ) (P : Plan) (l : length P ≡ v) (vans : ℕ) where
  all-routes : (k : ℕ) → v ≤ k → upto P vans k ≡ view vans P
  all-routes k h = ap (view vans) (take_all k P (omega arith))

  upto-more : (k : ℕ) → k < v → upto P vans (k + 1) ≡ upto P vans k ++ (seen vans k (route_of P k) ∷ [])
  upto-more k h = rw add-one (view-more vans k P (omega arith))

-- ---- the lengths

-- the lengths of the first k routes are written
pub record Lengths (v : ℕ) (P : Plan) (vans k : ℕ) (lengths : List ℕ) : Type 0 where
  pub passed : k ≤ v
  pub long : length lengths ≡ v
  pub written : take k lengths ≡ map length (upto P vans k)

pub lengths_none : (v : ℕ) (P : Plan) (vans : ℕ) (ls : List ℕ) → length ls ≡ v → Lengths v P vans 0 ls
unfolding view view_from
lengths_none v P vans ls h = record { passed = omega arith; long = h; written = refl }

module _ (v : ℕ) (P : Plan) (l : length P ≡ v) (vans k : ℕ) (ls : List ℕ) (w : Lengths v P vans k ls) where
  pub lengths-all : v ≤ k → ls ≡ map length (view vans P)
  lengths-all h = sym (take_all k ls (omega (arith, w.long))) ∙ w.written ∙ ap (map length) (all-routes v P l vans k h)

  module _ (h : k < v) where
    -- one length more
    more : (x : ℕ) (ls' : List ℕ) → x ≡ length (seen vans k (route_of P k)) → ls' ≡ set ls k x → Lengths v P vans (k + 1) ls'
    more x ls' ex e =
        let t : take (k + 1) (set ls k x) ≡ take k ls ++ (x ∷ []) = rw add-one (take-suc-set ls k x (omega (arith, w.long))) in
        record {
          passed = omega arith;
          long = rw e (simp length-set w.long);
          written = rw (e, t, w.written, upto-more v P l vans k h, map-append, ex);
        }

    -- an own van: its length
    pub lengths-own : (ls' : List ℕ) → contains k vans ≡ true → ls' ≡ set ls k (length (route_of P k)) → Lengths v P vans (k + 1) ls'
    lengths-own ls' c e = more (length (route_of P k)) ls' (rw c refl) e

    -- another's: 0
    pub lengths-other : (ls' : List ℕ) → contains k vans ≡ false → ls' ≡ set ls k 0 → Lengths v P vans (k + 1) ls'
    lengths-other ls' c e = more 0 ls' (rw c) e

-- ---- the stops

-- the stops of the first k routes are written up to `at`
pub record Stops (v n : ℕ) (P : Plan) (vans k at : ℕ) (area : List ℕ) : Type 0 where
  pub passed : k ≤ v
  pub long : length area ≡ n
  pub room : at ≤ placed (take k P)
  pub within : at ≤ n
  pub written : take at area ≡ concat (upto P vans k)

pub stops-none : (v n : ℕ) (P : Plan) (vans : ℕ) (area : List ℕ) → length area ≡ n → Stops v n P vans 0 0 area
unfolding view view_from
stops-none v n P vans area h = record { passed = omega arith; long = h; room = omega arith; within = omega arith; written = refl }

module _ (v n : ℕ) (P : Plan) (l : length P ≡ v) (few : placed P ≤ n) (vans k at : ℕ) (area : List ℕ) (w : Stops v n P vans k at area) where
  -- some of the routes have no more stops than all
  part-few : (j : ℕ) → placed (take j P) ≤ n
  part-few j =
      let e : concat P ≡ concat (take j P) ++ concat (drop j P) = ap concat (sym (take-append-drop j P)) ∙ concat-append (take j P) (drop j P) in
      omega (arith, ap length e ∙ length-append (concat (take j P)) (concat (drop j P)), few)

  -- the places that are left are filled with y
  pub stops-all : v ≤ k → (y : List ℕ) → y ≡ replicate (length (take (length area - at) (drop at area))) unused
      → take at area ++ (y ++ drop (length area - at) (drop at area)) ≡ area_of n (concat (view vans P))
  stops-all h y e =
      let t : take at area ≡ concat (view vans P) = w.written ∙ ap concat (all-routes v P l vans k h) in
      let s : length (take at area) ≡ at = length-take-le at area (omega (arith, w.within, w.long)) in
      let d : length (drop at area) ≡ n - length (take at area) = omega (arith, length-drop at area, w.long) in
      let e' : y ≡ replicate (n - length (take at area)) unused = rw (part_end, d) at e in
      lent-rest at area y ∙ rw (e', t)

  module _ (h : k < v) where
    more-placed : placed (take (k + 1) P) ≡ placed (take k P) + length (route_of P k)
    more-placed =
        let e : take (k + 1) P ≡ take k P ++ (route_of P k ∷ []) = rw add-one (take-suc P k [] (omega arith)) in
        rw (e, concat-append, append-nil) (length-append (concat (take k P)) (route_of P k))

    -- one route more
    more-stops : (at' : ℕ) (area' : List ℕ) → length area' ≡ n → at' ≤ at + length (route_of P k) → take at' area' ≡ take at area ++ seen vans k (route_of P k)
        → Stops v n P vans (k + 1) at' area'
    more-stops at' area' m a t =
        record {
          passed = omega arith;
          long = m;
          room = omega (arith, w.room, more-placed);
          within = omega (arith, w.room, more-placed, part-few (k + 1));
          written = rw (upto-more v P l vans k h, concat-append, append-nil, ← w.written) t;
        }

    -- an own van: its stops r are written
    module _ (r : Route) (e : r ≡ route_of P k) where
      pub stops-room : at + length r ≤ length area
      stops-room = omega (arith, ap length e, w.room, more-placed, part-few (k + 1), w.long)

      pub stops-own : (at' : ℕ) (area' : List ℕ) → contains k vans ≡ true → at' ≡ at + length r → area' ≡ put area at r → Stops v n P vans (k + 1) at' area'
      stops-own at' area' c ea f =
          more-stops at' area' (rw f (length-put area r at stops-room ∙ w.long)) (omega (arith, ap length e))
          (rw (c, ← e, f, ea) (take_put area r at (omega (arith, stops-room))))

    -- another's: none is
    pub stops-other : (at' : ℕ) (area' : List ℕ) → contains k vans ≡ false → at' ≡ at → area' ≡ area → Stops v n P vans (k + 1) at' area'
    stops-other at' area' c ea e = more-stops at' area' (rw e w.long) (omega arith) (rw (c, append-nil, ea, e))

-- ---- both

-- the lengths are written into the first v places of d, which gives d₁, and the stops into the rest
pub seen-whole : (v n : ℕ) (d d₁ x y : List ℕ) (Q : Plan) → length Q ≡ v → x ≡ map length Q → d₁ ≡ x ++ drop v d → y ≡ area_of n (concat Q)
    → take v d₁ ++ (y ++ drop (length d₁ - v) (drop v d₁)) ≡ encode n Q
unfolding encode
seen-whole v n d d₁ x y Q l ex e ey =
    let lx : length x ≡ v = rw ex (length-map Q length ∙ l) in
    lent-rest v d₁ y ∙ rw (e, take_at x _ v lx, ex, ey)
