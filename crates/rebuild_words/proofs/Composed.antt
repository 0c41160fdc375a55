-- A plan that is written route by route.
use Rattle.std.specs.Prelude.{Some, None, position}
use Prim.Native.Nat.{ℕ, suc, ◌+◌, ◌-◌, ◌≤◌, ◌<◌}
use native.Mathlib.Numerals.{add-one}
use native.Mathlib.Omega.{arith}
use mathlib.Core.Path.{◌≡◌, refl, sym, ap, ◌∙◌}
use mathlib.Core.List.{List, [], ◌∷◌, ◌++◌, map, append_assoc, append-nil}
use lib.ListN.{length, get_or, take, drop, set, replicate, length-append, length-set, length-take, length-drop, take-append-drop}
use lib.Seq.{take-suc, take_all, take-take, take-append-le, take-suc-set, take-set-lt, drop-append-le, drop-set-lt, drop-length, length-take-le}
use Rattle.model.specs.Lists.{concat, sum, part}
use Rattle.model.specs.Plan.{Plan, Route, route_of, placed, unused, encode, Lent}
use Rattle.model.proofs.Lists.{map-append, concat-append, sum_more}
use Rattle.model.proofs.PlanForm.{route-part, route-end, lent_length}
use Rattle.model.specs.declared.Region.{Region}
use Rattle.solution.specs.declared.plan.Plan as held
use Rattle.solution.specs.Held.{numbers_of, routes}
use Rattle.pasting.specs.Put.{put}
use Rattle.pasting.proofs.Put.{take_put, length-put, lent-rest}
use Rattle.rebuild_words.specs.Words.{Word, in_gap, plan_of}
use Rattle.rebuild_words.specs.Gaps.{Gapped, Within, refilled}
use Rattle.rebuild_words.proofs.Plans.{length-plan_of}
use Rattle.rebuild_words.proofs.Gaps.{is_of, own-there, own-within, route-refilled, route-stays}

-- the first i routes of X are written, and end at `at`
pub record Written (v n : ℕ) (X : Plan) (i at : ℕ) (to : List ℕ) : Type 0 where
  pub up_to : i ≤ v
  pub lengths : take i to ≡ map length (take i X)
  pub stops : drop v (take at to) ≡ concat (take i X)
  pub place : at ≡ v + placed (take i X)
  pub long : length to ≡ v + n

module _ (v n : ℕ) (X : Plan) where
  pub written_none : (to : List ℕ) → length to ≡ v + n → Written v n X 0 v to
  written_none to e = record {
    up_to = omega arith;
    lengths = refl;
    stops = sym (ap (λ k. drop k (take v to)) (length-take-le v to (omega arith))) ∙ drop-length (take v to);
    place = omega arith;
    long = e;
  }

  module _ (wide : length X ≡ v) where
    -- one route more
    one_more : (i : ℕ) → i < v → concat (take (suc i) X) ≡ concat (take i X) ++ route_of X i
    one_more i h = ap concat (take-suc X i [] (omega arith)) ∙ concat-append (take i X) (route_of X i ∷ []) ∙ rw append-nil

    few : (i : ℕ) → placed (take i X) ≤ placed X
    few i =
        omega (
          arith,
          ap length (sym (concat-append (take i X) (drop i X)) ∙ ap concat (take-append-drop i X)),
          length-append (concat (take i X)) (concat (drop i X)),
        )

    module _ (i at : ℕ) (to : List ℕ) (w : Written v n X i at to) (fits : placed X ≤ n) (h : i < v) where
      pub written-room : at + length (route_of X i) ≤ length to
      written-room =
          omega (arith, w.place, w.long, few (suc i), ap length (one_more i h), length-append (concat (take i X)) (route_of X i))

      module _ (to₁ to₂ : List ℕ) (r : Route) (next x : ℕ) (er : r ≡ route_of X i) (e₁ : to₁ ≡ put to at r) (en : next ≡ at + length r)
          (ex : x ≡ length r) (e₂ : to₂ ≡ set to₁ i x) where
        room : at + length r ≤ length to
        room = rw er written-room

        long₁ : length to₁ ≡ length to
        long₁ = rw e₁ (length-put to r at room)

        front : take next to₁ ≡ take at to ++ r
        front = rw (e₁, en) (take_put to r at (omega (arith, room)))

        upto : take i to₁ ≡ take i to
        upto =
            let k : i ≤ length (take at to ++ r) = simp (length-append, length-take-le at to (omega (arith, room))) (omega (arith, w.place)) in
            let k' : i ≤ length (take at to) = rw (length-take-le at to (omega (arith, room))) (omega (arith, w.place)) in
            sym (take-take i next to₁ (omega (arith, w.place)))
            ∙ rw (front, take-append-le i (take at to) r k') (take-take i at to (omega (arith, w.place)))

        pub written-more : Written v n X (i + 1) next to₂
        written-more = record {
          up_to = omega arith;
          lengths =
              rw (e₂, add-one, take-suc-set to₁ i x (omega (arith, long₁, w.long)), upto, w.lengths, take-suc X i [] (omega arith), map-append, ex, er);
          stops =
              let k : v ≤ length (take at to) = rw (length-take-le at to (omega (arith, room))) (omega (arith, w.place)) in
              rw (
                e₂,
                take-set-lt next to₁ i x (omega (arith, w.place)),
                drop-set-lt v (take next to₁) i x h,
                front,
                drop-append-le v (take at to) r k,
                w.stops,
                add-one,
                one_more i h,
                er,
              );
          place = omega (arith, w.place, ap length (one_more i h), length-append (concat (take i X)) (route_of X i), ap length er, ap (λ k. placed (take k X)) (add-one i));
          long = rw (e₂, length-set) (long₁ ∙ w.long);
        }

    -- all routes are written, and the places that are left filled
    pub written_all : (i at : ℕ) (to rest : List ℕ) → Written v n X i at to → v ≤ i → placed X ≤ n
        → rest ≡ replicate (length (take (length to - at) (drop at to))) unused
        → take at to ++ (rest ++ drop (length to - at) (drop at to)) ≡ encode n X
    unfolding encode
    written_all i at to rest w h fits e =
        let ei : i ≡ v = omega (arith, w.up_to) in
        let all : take i X ≡ X = take_all i X (omega arith) in
        let p : at ≡ v + placed X = rw all at w.place in
        let ls : take v to ≡ map length X = rw (← ei) (rw all at w.lengths) in
        let front : take at to ≡ map length X ++ concat X =
        sym (take-append-drop v (take at to)) ∙ rw (take-take v at to (omega arith), ls, w.stops, all)
        in
        let many : length (take (length to - at) (drop at to)) ≡ n - placed X = simp (length-take, length-drop) (omega (arith, w.long)) in
        rw (lent-rest at to rest, e, many, front) (append_assoc (map length X) (concat X) _)

-- ---- the plan of a word

-- xs is the lent form
module _ (p : held.Plan) (xs : List ℕ) (form : xs ≡ numbers_of p) (regions : List Region) (d : Region) (w : Word) (G : Gapped p regions) where
  abbrev pub composed : Plan
  composed = plan_of (routes p) regions w

  pub composed-wide : length composed ≡ p.v
  composed-wide = length-plan_of (routes p) regions d G.stretches w ∙ lent_length p.v p.n _ p.lent

  lent : Lent p.v p.n xs
  lent = rw form p.lent

  -- what a turn of the loop reads: the route of vehicle i, and what it becomes where it has a region and where it has none
  pub record Read (start i : ℕ) : Type 0 where
    pub ending : start + get_or xs i 0 ≤ length xs
    pub below : start + get_or xs i 0 ≤ 80
    pub next : start + get_or xs i 0 ≡ p.v + sum (take (i + 1) xs)
    pub within : (r : ℕ) → position (is_of i) regions ≡ Some r → (r < length regions) × Within (get_or regions r d) (part start (start + get_or xs i 0) xs)
    pub refills : (r : ℕ) → position (is_of i) regions ≡ Some r
        → refilled (get_or regions r d) (in_gap r w) (part start (start + get_or xs i 0) xs) ≡ route_of composed i
    pub stays : position (is_of i) regions ≡ None → part start (start + get_or xs i 0) xs ≡ route_of composed i

  pub reads : (start i : ℕ) → start ≡ p.v + sum (take i xs) → i < p.v → Read start i
  reads start i es h =
      let P = routes p in
      let e : part start (start + get_or xs i 0) xs ≡ route_of P i =
      sym (route-part p.v xs (omega (arith, lent.long)) i start h es) ∙ rw form refl
      in
      record {
        ending = omega (arith, route-end p.v p.n xs lent.long lent.fits i h, lent.long);
        below = omega (arith, route-end p.v p.n xs lent.long lent.fits i h, p.sizes.vehicles, p.sizes.stops);
        next = omega (arith, sum_more xs i, ap (λ k. sum (take k xs)) (add-one i));
        within = λ r f. (own-there P regions d G.stretches w i r f, rw e (own-within P regions d G.stretches w i r f));
        refills = λ r f. rw e (sym (route-refilled P regions d G.stretches w i r f));
        stays = λ f. e ∙ sym (route-stays P regions d G.stretches w i f);
      }
