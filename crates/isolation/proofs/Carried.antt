-- A move carries one stop to its place and leaves every other where it was.
use Prim.Native.Nat.{ℕ, ◌<◌, ◌≤◌}
use native.Mathlib.Omega.{arith}
use mathlib.Core.Path.{◌≡◌, refl, ap, ◌∙◌}
use mathlib.Core.Logic.{inl, inr}
use mathlib.Core.Bool.{cond}
use mathlib.Core.List.{List, [], ◌∷◌, ◌++◌}
use lib.Dec.{eqb}
use lib.ListN.{length, get_or, take, drop, length-append, take-append-drop}
use lib.Seq.{get_or_at, length-take-le}
use Rattle.model.specs.Lists.{concat, without, count, Once}
use Rattle.model.specs.Plan.{Plan, Route, route_of}
use Rattle.model.specs.Live.{put_in, placing, cancelled}
use Rattle.model.specs.Vans.{moved}
use Rattle.model.specs.declared.Move.{Move}
use Rattle.model.specs.Studios.{Carried}
use Rattle.model.proofs.Lists.{Tested, tested, one_same, count-absent, without-absent, get_or-change, get_or-change-other}
use Rattle.model.proofs.Counts.{count-route, count-take-le}
use Rattle.model.proofs.Locate.{stop-found}
use Rattle.model.proofs.Live.{cancelled-routes, cancelled-count}
use Rattle.model.proofs.Vans.{cancelled-route, moved_other, moved-one, moved-once, moved-untouched}

-- what stands before the first x stays, and the x goes
without-first : (x : ℕ) (xs ys : List ℕ) → count x xs ≡ 0 → without x (xs ++ (x ∷ ys)) ≡ xs ++ ys
without-first x [] ys z = elim (tested x x) [ inl e ↦ rw e.1 | inr f ↦ absurd (f.0 refl) ]
without-first x (y ∷ xs) ys z = go (tested x y) (without-first x xs ys (omega arith))
  where
    go : Tested x y → without x (xs ++ (x ∷ ys)) ≡ xs ++ ys → cond (eqb x y) (xs ++ (x ∷ ys)) (y ∷ without x (xs ++ (x ∷ ys))) ≡ y ∷ (xs ++ ys)
    go (inl e) ih = absurd (omega (arith, one_same x y e.0))
    go (inr f) ih = rw (f.1, ih)

-- a stop put into a route without it, and taken out
without-put_in : (i s : ℕ) (r : Route) → count s r ≡ 0 → without s (put_in i s r) ≡ r
without-put_in i s r z = without-first s (take i r) (drop i r) (omega (arith, count-take-le s i r)) ∙ take-append-drop i r

-- where no stop stands twice none of a stop is left after it is taken out
gone : (s : ℕ) (P : Plan) → Once (concat P) → (k : ℕ) → count s (route_of (cancelled s P) k) ≡ 0
gone s P once k = elim (tested s s) [
  | inl e ↦
      let c : count s (concat (cancelled s P)) ≡ 0 = rw e.1 at (cancelled-count s P once s) in
      omega (arith, count-route s (cancelled s P) k)
  | inr f ↦ absurd (f.0 refl)
]

module _ (m : Move) (P : Plan) (once : Once (concat P)) (known : m.van < length P) where
  abbrev out : Plan
  out = cancelled m.stop P

  target : route_of (placing m.stop out m.van m.place) m.van ≡ put_in m.place m.stop (route_of out m.van)
  target = get_or-change m.van (put_in m.place m.stop) out [] (rw cancelled-routes known)

  moved_order : (k : ℕ) → without m.stop (route_of (moved m P) k) ≡ without m.stop (route_of P k)
  unfolding moved
  moved_order k = go (tested k m.van) ∙ cancelled-route m.stop P k
    where
      go : Tested k m.van → without m.stop (route_of (placing m.stop out m.van m.place) k) ≡ route_of out k
      go (inl e) = rw e.0 (ap (without m.stop) target ∙ without-put_in m.place m.stop (route_of out m.van) (gone m.stop P once m.van))
      go (inr f) =
          ap (without m.stop) (get_or-change-other m.van k (put_in m.place m.stop) out [] f.0)
          ∙ without-absent m.stop (route_of out k) (count-absent m.stop (route_of out k) (gone m.stop P once k))

  pub carried : m.place ≤ length (route_of (cancelled m.stop P) m.van) → Carried m P (moved m P)
  unfolding moved
  carried within =
      let s : ℕ = m.stop in
      let i : ℕ = m.place in
      let r : Route = route_of out m.van in
      let new : Route = route_of (placing s out m.van i) m.van in
      let front : length (take i r) ≡ i = length-take-le i r within in
      let fits : i < length new = rw (target, length-append, front) (omega arith) in
      let at : get_or new i 0 ≡ s = rw target (get_or_at (take i r) s (drop i r) 0 i front) in
      let found = stop-found s (moved m P) m.van i (moved-once m P once known) fits at in
      record {
        others = moved_other m P once known;
        one = moved-one m P once known;
        van = found.0;
        place = found.1;
        order = moved_order;
        untouched = moved-untouched m P once;
      }
