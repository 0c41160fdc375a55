-- The choice of a pair on one route: over the leg table, and for every job that fits it.
use mathlib.Core.Path.{◌≡◌, refl, sym, ap, ap₂, ◌∙◌, subst}
use mathlib.Core.Bool.{Bool, true, false, cond}
use mathlib.Core.List.{List, []}
use Prim.Native.Nat.{ℕ, ◌<◌, ◌≤◌, min, max}
use native.Mathlib.Omega.{arith}
use lib.Dec.{ltb}
use lib.Ieee.{Float, lt}
use lib.ListN.{length, take}
use lib.Seq.{take_at}
use Rattle.model.specs.Lists.{position, count}
use Rattle.model.specs.Whole.{whole, exact}
use Rattle.model.specs.Job.{Job}
use Rattle.model.specs.Plan.{Plan, Route, route_of, encode, decode, Lent}
use Rattle.model.specs.Legs.{Affordable, Fits}
use Rattle.model.specs.Cost.{cost, price}
use Rattle.model.specs.TwoOpt.{set_route, ends_exchanged, inverted, intra}
use Rattle.model.specs.declared.Prices.{Prices}
use Rattle.model.proofs.Lists.{change-none}
use Rattle.model.proofs.Counts.{Below, count-route, length-kept}
use Rattle.model.proofs.Cost.{route_cost, cost-change, cheaper-alike}
use Rattle.model.proofs.PlanForm.{lent_length, lent-moved}
use Rattle.model.proofs.Moves.{Moved, moved-route, count-ends, count-inverted}
use Rattle.whole.proofs.Laws.{lt-whole}
use Rattle.distance.specs.Ways.{RouteLength}
use Rattle.distance.proofs.Laws.{way-route}
use Rattle.delivery.proofs.Laws.{price-small}
use Rattle.pasting.specs.Put.{put}
use Rattle.delivery.specs.Costs.{table_price, Ready}
use Rattle.two_opt_intra.specs.Reordered.{cheaper, reordered, Weighable, Weighs}

-- r has the stops of w, in whatever order
abbrev pub Alike : Route → Route → Type 0
Alike w r = (x : ℕ) → count x r ≡ count x w

pub alike-length : (w r : Route) → Alike w r → length r ≡ length w
alike-length w r a = length-kept r w a

module _ (i j : ℕ) (r : Route) (l : i < j) where
  pub first_alike : Alike r (ends_exchanged i j r)
  first_alike x = count-ends x i j r l

  pub second_alike : Alike r (inverted i j r)
  second_alike x = count-inverted x i j r l

-- ---- what routes cost

weighable-alike : {k : ℕ} {w r : Route} → Alike w r → Weighable k w → Weighable k r
weighable-alike {k} {w} {r} a W =
    record {
      vehicle = W.vehicle;
      route =
          record {
            few = omega (arith, alike-length w r a, W.route.few);
            stops = λ x h. W.route.stops x (omega (arith, a x));
          };
    }

module _ {t : List ℕ} {p : Prices} {k : ℕ} where
  -- what a route of that length costs is its price
  pub weighed : {r : Route} {d : ℕ} (c : Float) → Affordable p → RouteLength t k r d → c ≡ whole (price p d) → Weighs t p k r c
  weighed {d = d} c A L e =
      let small : price p d ≤ exact = omega (arith, price-small p A d (omega (arith, L.small))) in
      record { small = subst (λ (m : ℕ). price p m ≤ exact) L.way small; is = e ∙ ap (λ (m : ℕ). whole (price p m)) L.way }

  -- the test of the code is that of the prices
  weighs-lt : {q r : Route} {a b : Float} → Weighs t p k q a → Weighs t p k r b → lt a b ≡ ltb (table_price t p k q) (table_price t p k r)
  weighs-lt {q} {r} A B = ap₂ lt A.is B.is ∙ lt-whole (table_price t p k q) (table_price t p k r) A.small B.small

-- ---- a new form x of the route r, at the front of an array d

pub record Front (r x d : List ℕ) : Type 0 where
  pub stands : take (length r) d ≡ x
  pub alike : Alike r x

pub front : (r x d₀ d : List ℕ) → d ≡ put d₀ 0 x → Alike r x → Front r x d
front r x d₀ d e a =
    let l : length r ≡ length x = omega (arith, alike-length r x a) in
    record { stands = rw (e, l) (take_at x _ (length x) refl); alike = a }

module _ {r x d : List ℕ} (F : Front r x d) where
  pub weighable-front : {k : ℕ} → Weighable k r → Weighable k (take (length r) d)
  weighable-front {k} W = subst (Weighable k) (sym F.stands) (weighable-alike F.alike W)

  pub weighs-front : {t : List ℕ} {p : Prices} {k : ℕ} {c : Float} → Weighs t p k (take (length r) d) c → Weighs t p k x c
  weighs-front {t} {p} {k} {c} W = subst (λ (q : Route). Weighs t p k q c) F.stands W

-- ---- the choice over the table

-- what the two new routes and the old one cost
pub record Weights (t : List ℕ) (p : Prices) (k i j : ℕ) (r : Route) (a b c : Float) : Type 0 where
  pub first : Weighs t p k (ends_exchanged i j r) a
  pub second : Weighs t p k (inverted i j r) b
  pub old : Weighs t p k r c

-- by the outcome of the tests: whether b is below a, and c below the lower of them
pub chosen : {t : List ℕ} {p : Prices} {k i j : ℕ} {r : Route} {a b c : Float} → Weights t p k i j r a b c
    → (x y : Bool) → lt b a ≡ x → lt c (cond x b a) ≡ y → cond y r (cond x (inverted i j r) (ends_exchanged i j r)) ≡ reordered t p k i j r
unfolding reordered
chosen {t} {p} {k} {i} {j} {r} {a} {b} {c} W x y e f =
    let e' : ltb (table_price t p k (inverted i j r)) (table_price t p k (ends_exchanged i j r)) ≡ x = sym (weighs-lt W.second W.first) ∙ e in
    rw (e', go x f)
  where
    go : (x : Bool) → lt c (cond x b a) ≡ y → ltb (table_price t p k r) (table_price t p k (cond x (inverted i j r) (ends_exchanged i j r))) ≡ y
    go true f = sym (weighs-lt W.old W.second) ∙ f
    go false f = sym (weighs-lt W.old W.first) ∙ f

module _ (t : List ℕ) (p : Prices) (k : ℕ) where
  cheaper-alike-to : (w q r : Route) → Alike w q → Alike w r → Alike w (cheaper t p k q r)
  cheaper-alike-to w q r a b = go (ltb (table_price t p k r) (table_price t p k q))
    where
      go : (x : Bool) → Alike w (cond x r q)
      go true = b
      go false = a

  module _ (i j : ℕ) (r : Route) (l : i < j) where
    pub reordered-alike : Alike r (reordered t p k i j r)
    unfolding reordered
    reordered-alike =
        cheaper-alike-to r (cheaper t p k (ends_exchanged i j r) (inverted i j r)) r
        (cheaper-alike-to r (ends_exchanged i j r) (inverted i j r) (first_alike i j r l) (second_alike i j r l)) (λ x. refl)

-- ---- the choice of a plan

module _ (t : List ℕ) (v n : ℕ) (p : Prices) (xs : List ℕ) (R : Ready t v n p xs) (k : ℕ) (h : k < v) where
  below_alike : (r : Route) → Alike (route_of (decode v xs) k) r → Below n r
  below_alike r a s g = R.plan.below s (omega (arith, a s, count-route s (decode v xs) k))

  inside : k < length (decode v xs)
  inside = omega (arith, lent_length v n xs R.plan)

  module _ (J : Job) (F : Fits J t v n p) where
    price-is : (r : Route) → Alike (route_of (decode v xs) k) r → route_cost J k r ≡ table_price t p k r
    price-is r a =
        let e = way-route J t v n p F k r h (below_alike r a) (λ s g. omega (arith, below_alike r a s g, R.sizes.stops)) in
        ap₂ price F.prices (sym e)

    -- plans that differ in route k are compared by it
    plans-lt : (q r : Route) → Alike (route_of (decode v xs) k) q → Alike (route_of (decode v xs) k) r
        → ltb (cost J (set_route k q (decode v xs))) (cost J (set_route k r (decode v xs))) ≡ ltb (table_price t p k q) (table_price t p k r)
    plans-lt q r a b =
        let ca = cost-change J k (λ _. q) (decode v xs) inside (alike-length (route_of (decode v xs) k) q a) in
        let cb = cost-change J k (λ _. r) (decode v xs) inside (alike-length (route_of (decode v xs) k) r b) in
        cheaper-alike (cost J (set_route k q (decode v xs))) (cost J (set_route k r (decode v xs))) (route_cost J k q) (route_cost J k r) (omega arith)
        ∙ ap₂ ltb (price-is q a) (price-is r b)

    pick : (q r : Route) → Alike (route_of (decode v xs) k) q → Alike (route_of (decode v xs) k) r
        → cond (ltb (cost J (set_route k r (decode v xs))) (cost J (set_route k q (decode v xs)))) (set_route k r (decode v xs)) (set_route k q (decode v xs))
        ≡ set_route k (cheaper t p k q r) (decode v xs)
    pick q r a b = rw (plans-lt r q b a) (go (ltb (table_price t p k r) (table_price t p k q)))
      where
        go : (x : Bool) → cond x (set_route k r (decode v xs)) (set_route k q (decode v xs)) ≡ set_route k (cond x r q) (decode v xs)
        go true = refl
        go false = refl

    pub intra-is : (s u i j : ℕ) → i ≡ min (position s (route_of (decode v xs) k)) (position u (route_of (decode v xs) k))
        → j ≡ max (position s (route_of (decode v xs) k)) (position u (route_of (decode v xs) k)) → i < j
        → set_route k (reordered t p k i j (route_of (decode v xs) k)) (decode v xs) ≡ intra J (decode v xs) k s u
    unfolding intra reordered
    intra-is s u i j ei ej l =
        let P : Plan = decode v xs in
        let r : Route = route_of P k in
        let first : Route = ends_exchanged i j r in
        let second : Route = inverted i j r in
        let same : set_route k r P ≡ P = change-none k (λ _. r) P [] refl in
        let one : Alike r first = first_alike i j r l in
        let two : Alike r second = second_alike i j r l in
        let best = pick first second one two in
        sym (pick (cheaper t p k first second) r (cheaper-alike-to t p k r first second one two) (λ x. refl))
        ∙ ap₂ (λ (X Y : Plan). cond (ltb (cost J X) (cost J Y)) X Y) same (sym best)
        ∙ rw (ei, ej)

  -- and it is lent
  pub reordered-lent : (i j : ℕ) → i < j → Lent v n (encode n (set_route k (reordered t p k i j (route_of (decode v xs) k)) (decode v xs)))
  reordered-lent i j l =
      let P : Plan = decode v xs in
      let r : Route = reordered t p k i j (route_of P k) in
      let m : Moved P (set_route k r P) = moved-route k r P inside (reordered-alike t p k i j (route_of P k) l) in
      lent-moved v n xs (set_route k r P) R.plan (m.routes ∙ lent_length v n xs R.plan) m.stops
