-- The costs of plans within the limits are below 2 ^ 53, so that every sum of them in f64 is exact.
use mathlib.Core.Path.{◌≡◌, sym, ap, ap₂, ◌∙◌, subst}
use Prim.Native.Nat.{ℕ, suc, ◌+◌, ◌-◌, ◌*◌, ◌≤◌, ◌<◌}
use native.Mathlib.Nat.{mul-le-mul, le_trans, add-mul, mul-add, mul_assoc, add-zero, add-suc, suc-add}
use native.Mathlib.Numerals.{add-one}
use native.Mathlib.Omega.{arith}
use mathlib.Core.List.{List, [], ◌∷◌, ◌++◌}
use lib.ListN.{length, take, drop, length-append, take-append-drop}
use lib.Seq.{take-suc, take_all, length-take-le}
use lib.Ieee.{Float, binary64, add, mul}
use Rattle.model.specs.Lists.{concat, Once}
use Rattle.model.specs.Whole.{whole, exact, amount, IsWhole}
use Rattle.model.specs.Job.{Job}
use Rattle.model.specs.Plan.{Plan, Route, route_of, placed, decode, Sizes}
use Rattle.model.specs.Legs.{depot, LegTable, Affordable, Fits}
use Rattle.model.specs.Cost.{price, route_length, route_price, driving_from, driving_cost, missed_cost, cost}
use Rattle.model.specs.declared.Prices.{Prices}
use Rattle.model.proofs.Lists.{count-append}
use Rattle.model.proofs.Counts.{count-route, once-few, length-le}
use Rattle.model.proofs.Cost.{price-is, missed_cost-is, driving-nil, driving-cons, driving_cost-is, cost-is}
use Rattle.model.proofs.PlanForm.{lent_length, lent_placed}
use Rattle.whole.proofs.Laws.{add-whole, mul-whole, amount-is}
use Rattle.distance.specs.Ways.{table_legs, Below, Drivable}
use Rattle.distance.proofs.Laws.{way-small, way-route}
use Rattle.delivery.specs.Costs.{table_price, table_driving, table_cost, Ready, Drives, Costs}

-- ---- the price of one length

-- what no plan's routes cost more than, and what no plan's missed stops cost more than
abbrev pub dearest : ℕ
dearest = 4112000000000000

abbrev pub dearest_missed : ℕ
dearest_missed = 640000000000000

module _ (p : Prices) (A : Affordable p) where
  module _ (d : ℕ) (h : d ≤ 16000000) where
    linear : d * p.linear ≤ 16000000000000
    linear = mul-le-mul h A.linear

    square : d * d ≤ 256000000000000
    square = mul-le-mul h h

    quadratic : d * d * p.quadratic ≤ 4096000000000000
    quadratic = mul-le-mul square A.quadratic

    pub price-small : price p d ≤ dearest
    price-small = rw price-is (omega (arith, linear, quadratic))

    metre : d * p.quadratic ≤ 256000000
    metre = mul-le-mul h A.quadratic

    pub price-exact : mul binary64 (whole d) (add binary64 (whole p.linear) (mul binary64 (whole d) (whole p.quadratic))) ≡ whole (price p d)
    price-exact =
        rw (
          mul-whole d p.quadratic (omega arith) (omega (arith, A.quadratic)),
          add-whole p.linear (d * p.quadratic) (omega (arith, A.linear)) (omega (arith, metre)),
          mul-whole d (p.linear + d * p.quadratic) (omega arith) (omega (arith, A.linear, metre)),
        )
        (ap whole (rw (price-is p d) (rw (mul-add, mul_assoc))))

  module _ (m : ℕ) (h : m ≤ 64) where
    missed : m * p.missed ≤ dearest_missed
    missed = mul-le-mul h A.missed

    pub missed-small : missed_cost p m ≤ dearest_missed
    missed-small = rw missed_cost-is missed

    pub missed-exact : mul binary64 (whole m) (whole p.missed) ≡ whole (missed_cost p m)
    missed-exact = mul-whole m p.missed (omega arith) (omega (arith, A.missed)) ∙ ap whole (sym (missed_cost-is p m))

-- two lengths cost no more than one as long as both
pub price-apart : (p : Prices) (a b : ℕ) → price p a + price p b ≤ price p (a + b)
price-apart p a b =
    let e : (a + b) * p.linear + (a + b) * (a + b) * p.quadratic
    ≡ a * p.linear + a * a * p.quadratic + (b * p.linear + b * b * p.quadratic) + (a * b * p.quadratic + b * a * p.quadratic) =
    simp (add-mul, mul-add) (omega arith)
    in
    rw (price-is p a, price-is p b, price-is p (a + b)) (omega arith)

-- the exact sum of two costs
pub sum-exact : (a b : ℕ) → a + b ≤ exact → add binary64 (whole a) (whole b) ≡ whole (a + b)
sum-exact a b h = add-whole a b (omega arith) (omega arith)

-- ---- the routes of a plan over a table

module _ (t : List ℕ) (p : Prices) where
  pub driving-append : (k : ℕ) (P Q : Plan) → table_driving t p k (P ++ Q) ≡ table_driving t p k P + table_driving t p (k + length P) Q
  unfolding table_driving
  driving-append k [] Q = rw add-zero (omega arith)
  driving-append k (r ∷ P) Q = rw (add-suc, ← suc-add) (omega (arith, driving-append (suc k) P Q))

  one-route : (j k : ℕ) (r : Route) → j ≡ k → table_driving t p j (r ∷ []) ≡ price p (table_legs t (depot k) r (depot k))
  unfolding table_driving
  one-route j k r e = rw e (omega arith)

  -- one route more of those passed
  pub driving-more : (k : ℕ) (P : Plan) → k < length P
      → table_driving t p 0 (take (k + 1) P) ≡ table_driving t p 0 (take k P) + price p (table_legs t (depot k) (route_of P k) (depot k))
  driving-more k P h =
      ap (λ (j : ℕ). table_driving t p 0 (take j P)) (add-one k)
      ∙ ap (table_driving t p 0) (take-suc P k [] h)
      ∙ driving-append 0 (take k P) (route_of P k ∷ [])
      ∙ ap (λ (x : ℕ). table_driving t p 0 (take k P) + x)
      (one-route (0 + length (take k P)) k (route_of P k) (omega (arith, length-take-le k P (omega arith))))

  -- some of the routes cost no more than all
  pub driving-part : (k : ℕ) (P : Plan) → table_driving t p 0 (take k P) ≤ table_driving t p 0 P
  driving-part k P =
      omega (arith, sym (ap (table_driving t p 0) (take-append-drop k P)) ∙ driving-append 0 (take k P) (drop k P))

  -- all routes together
  total : ℕ → Plan → ℕ
  total k [] = 0
  total k (r ∷ P) = table_legs t (depot k) r (depot k) + total (suc k) P

  total-small : LegTable t → (k : ℕ) (P : Plan) → total k P ≤ (placed P + length P) * 200000
  unfolding total
  total-small L k [] = omega arith
  total-small L k (r ∷ P) = omega (arith, way-small t L (depot k) r (depot k), total-small L (suc k) P, length-append r (concat P))

  together : (k : ℕ) (P : Plan) → table_driving t p k P ≤ price p (total k P)
  unfolding table_driving total
  together k [] = omega arith
  together k (r ∷ P) = omega (arith, together (suc k) P, price-apart p (table_legs t (depot k) r (depot k)) (total (suc k) P))

  -- at most 80 legs, each at most 200,000 long
  pub driving-small : LegTable t → Affordable p → (k : ℕ) (P : Plan) → placed P + length P ≤ 80 → table_driving t p k P ≤ dearest
  driving-small L A k P h =
      le_trans (together k P) (price-small p A (total k P) (omega (arith, total-small L k P)))

  pub cost-small : LegTable t → Affordable p → (n : ℕ) (P : Plan) → n ≤ 64 → placed P + length P ≤ 80 → table_cost t p n P < exact
  unfolding table_cost
  cost-small L A n P N h = omega (arith, driving-small L A 0 P h, missed-small p A (n - placed P) (omega arith))

-- ---- the job's own costs

below_parts : (n : ℕ) (r : Route) (P : Plan) → Below n (r ++ concat P) → Below n r × Below n (concat P)
below_parts n r P h = (λ s g. h s (omega (arith, count-append s r (concat P))), λ s g. h s (omega (arith, count-append s r (concat P))))

module _ (J : Job) (t : List ℕ) (v n : ℕ) (p : Prices) (F : Fits J t v n p) where
  -- the route of one vehicle
  pub table-price : (k : ℕ) (r : Route) → k < v → Below n r → Below 64 r → table_price t p k r ≡ route_price J k r
  table-price k r h N S =
      ap (price p) (way-route J t v n p F k r h N S) ∙ ap (λ (q : Prices). price q (route_length J k r)) (sym F.prices)

  driving-job : (k : ℕ) (P : Plan) → k + length P ≤ v → Below n (concat P) → Below 64 (concat P) → table_driving t p k P ≡ driving_from J k P
  unfolding table_driving
  driving-job k [] h N S = sym (driving-nil J k)
  driving-job k (r ∷ P) h N S =
      let N' = below_parts n r P N in
      let S' = below_parts 64 r P S in
      ap₂ ◌+◌ (table-price k r (omega arith) N'.0 S'.0) (driving-job (suc k) P (omega arith) N'.1 S'.1) ∙ sym (driving-cons J k r P)

  module _ (P : Plan) (few : length P ≤ v) (N : Below n (concat P)) (S : Below 64 (concat P)) where
    pub table-driving : table_driving t p 0 P ≡ driving_cost J P
    table-driving = driving-job 0 P (omega arith) N S ∙ sym (driving_cost-is J P)

    pub table-cost : table_cost t p n P ≡ cost J P
    unfolding table_cost
    table-cost =
        ap₂ ◌+◌ table-driving (ap₂ (λ (q : Prices) (m : ℕ). missed_cost q (m - placed P)) (sym F.prices) (sym F.stops))
        ∙ sym (cost-is J P)

  -- the cost of every plan whose stops stand once and below n is exact in f64
  pub cost-exact : LegTable t → Sizes v n → Affordable p → (P : Plan) → length P ≤ v → Once (concat P) → Below n (concat P) → cost J P < exact
  cost-exact L Z A P few O N =
      subst (λ (c : ℕ). c < exact) (table-cost P few N (λ s g. omega (arith, N s g, Z.stops)))
      (cost-small t p L A n P Z.stops (omega (arith, once-few n (concat P) O N, Z.vehicles, Z.stops)))

-- ---- a plan that is lent

module _ (t : List ℕ) (v n : ℕ) (p : Prices) (xs : List ℕ) (R : Ready t v n p xs) where
  pub lent-few : placed (decode v xs) + length (decode v xs) ≤ 80
  lent-few =
      omega (arith, lent_length v n xs R.plan, lent_placed v n xs R.plan, R.sizes.vehicles, R.sizes.stops)

  pub lent-64 : Below 64 (concat (decode v xs))
  lent-64 s g = omega (arith, R.plan.below s g, R.sizes.stops)

  -- route k can be driven
  pub lent-drivable : (k : ℕ) → Drivable (route_of (decode v xs) k)
  lent-drivable k =
      record {
        few = omega (arith, length-le (route_of (decode v xs) k) (concat (decode v xs)) (λ s. count-route s (decode v xs) k), lent_placed v n xs R.plan, R.sizes.stops);
        stops = λ s g. lent-64 s (omega (arith, count-route s (decode v xs) k));
      }

  lent-small : table_driving t p 0 (decode v xs) ≤ dearest
  lent-small = driving-small t p R.legs R.prices 0 (decode v xs) lent-few

  -- one route more is added exactly
  pub driving-step : (k : ℕ) (s r : Float) → k < v → s ≡ whole (table_driving t p 0 (take k (decode v xs)))
      → r ≡ whole (price p (table_legs t (depot k) (route_of (decode v xs) k) (depot k)))
      → add binary64 s r ≡ whole (table_driving t p 0 (take (k + 1) (decode v xs)))
  driving-step k s r h e d =
      let m = driving-more t p k (decode v xs) (omega (arith, lent_length v n xs R.plan)) in
      ap₂ (add binary64) e d
      ∙ sum-exact _ _ (omega (arith, m, driving-part t p (k + 1) (decode v xs), lent-small))
      ∙ ap whole (sym m)

  pub drives-is : (k : ℕ) (c : Float) → v ≤ k → c ≡ whole (table_driving t p 0 (take k (decode v xs))) → Drives t v n p (decode v xs) c
  drives-is k c h e =
      let l = lent_length v n xs R.plan in
      let d : c ≡ whole (table_driving t p 0 (decode v xs)) = e ∙ ap (λ (P : Plan). whole (table_driving t p 0 P)) (take_all k (decode v xs) (omega arith)) in
      record {
        small = omega (arith, lent-small);
        table = d;
        job = λ J F. d ∙ ap whole (table-driving J t v n p F (decode v xs) (omega arith) R.plan.below lent-64);
      }

  -- the routes and the missed stops are added exactly
  pub costs-is : (c m : Float) → Drives t v n p (decode v xs) c → m ≡ whole (missed_cost p (n - placed (decode v xs)))
      → Costs t v n p (decode v xs) (add binary64 c m)
  unfolding table_cost
  costs-is c m D e =
      let l = lent_length v n xs R.plan in
      let small = cost-small t p R.legs R.prices n (decode v xs) R.sizes.stops lent-few in
      let d : add binary64 c m ≡ whole (table_cost t p n (decode v xs)) = ap₂ (add binary64) D.table e ∙ sum-exact _ _ (omega arith) in
      record {
        small = omega arith;
        table = d;
        job = λ J F. d ∙ ap whole (table-cost J t v n p F (decode v xs) (omega arith) R.plan.below lent-64);
      }

  -- the number that such an f64 is
  module _ (c : Float) where
    pub drives-whole : Drives t v n p (decode v xs) c → IsWhole c
    drives-whole D = (table_driving t p 0 (decode v xs), D.small, D.table)

    pub costs-whole : Costs t v n p (decode v xs) c → IsWhole c
    costs-whole C = (table_cost t p n (decode v xs), C.small, C.table)

    module _ (J : Job) (F : Fits J t v n p) where
      pub drives-amount : Drives t v n p (decode v xs) c → amount c ≡ driving_cost J (decode v xs)
      drives-amount D =
          amount-is c (table_driving t p 0 (decode v xs)) D.small D.table
          ∙ table-driving J t v n p F (decode v xs) (omega (arith, lent_length v n xs R.plan)) R.plan.below lent-64

      pub costs-amount : Costs t v n p (decode v xs) c → amount c ≡ cost J (decode v xs)
      costs-amount C =
          amount-is c (table_cost t p n (decode v xs)) C.small C.table
          ∙ table-cost J t v n p F (decode v xs) (omega (arith, lent_length v n xs R.plan)) R.plan.below lent-64
