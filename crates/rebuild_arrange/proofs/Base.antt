-- What a plan costs without the routes of its regions.
use mathlib.Core.Path.{◌≡◌, refl, sym, ap, ap₂, ◌∙◌}
use mathlib.Core.Logic.{inl, inr}
use mathlib.Core.Bool.{cond}
use Prim.Native.Nat.{ℕ, zero, suc, ◌+◌, ◌-◌, ◌≤◌, ◌<◌}
use native.Mathlib.Nat.{le_of_suc-le-suc}
use native.Mathlib.Numerals.{add-one}
use native.Mathlib.Omega.{arith}
use mathlib.Core.List.{List, [], ◌∷◌}
use lib.Dec.{eqb}
use lib.Ieee.{Float, binary64, sub}
use lib.ListN.{length, get_or, drop, drop_of_length-le}
use lib.Seq.{drop-cons}
use borrow.Author.Tests.{eq-eqb, ne_eqb}
use Rattle.model.specs.declared.Prices.{Prices}
use Rattle.model.specs.declared.Region.{Region}
use Rattle.model.specs.Lists.{In}
use Rattle.model.specs.Whole.{exact, whole}
use Rattle.model.specs.Plan.{Plan, Route, route_of}
use Rattle.model.specs.Region.{vehicles_of, Stretches}
use Rattle.model.specs.Cost.{over_routes}
use Rattle.model.proofs.PlanForm.{lent_length, lent_placed}
use Rattle.model.proofs.Regions.{first-stretch, later-stretches}
use Rattle.whole.proofs.Laws.{sub-whole, amount-is}
use Rattle.distance.specs.declared.tariff.Tariff.{Tariff}
use Rattle.solution.specs.declared.plan.Plan as held
use Rattle.solution.specs.Held.{routes}
use Rattle.delivery.specs.Costs.{table_price, table_driving, table_cost}
use Rattle.delivery.proofs.Laws.{cost-small}
use Rattle.rebuild_words.specs.Gaps.{no_region}
use Rattle.rebuild_tables.specs.Table.{gap_driving}
use Rattle.rebuild_arrange.specs.Arranged.{Arrangeable}
use Rattle.rebuild_arrange.specs.Prepared.{Based}

-- ---- some routes of a plan come to no more than all

-- what f gives for the regions' routes, added up
along : (ℕ → Route → ℕ) → Plan → List Region → ℕ
along f P [] = 0
along f P (g ∷ gs) = f g.vehicle (route_of P g.vehicle) + along f P gs

-- f, but nothing for vehicle k
without : (ℕ → Route → ℕ) → ℕ → ℕ → Route → ℕ
without f k j r = cond (eqb j k) 0 (f j r)

module _ (f : ℕ → Route → ℕ) (k : ℕ) where
  others-stay : (j : ℕ) (P : Plan) → k < j → over_routes (without f k) j P ≡ over_routes f j P
  unfolding without
  others-stay j [] h = refl
  others-stay j (r ∷ P) h = rw (ne_eqb j k (λ e. omega arith), others-stay (suc j) P (omega arith))

  -- one route taken out
  one_out : (j i : ℕ) (P : Plan) → i < length P → j + i ≡ k → over_routes (without f k) j P + f k (route_of P i) ≡ over_routes f j P
  unfolding without
  one_out j i [] h e = absurd (omega arith)
  one_out j zero (r ∷ P) h e =
      let d : j ≡ k = omega arith in
      let o = others-stay (suc j) P (omega arith) in
      rw (eq-eqb j k d) (omega (arith, o, ap (λ (x : ℕ). f x r) d))
  one_out j (suc i) (r ∷ P) h e =
      let d = one_out (suc j) i P (le_of_suc-le-suc h) (omega arith) in
      rw (ne_eqb j k (λ x. omega arith)) (omega arith)

  -- the regions of other vehicles
  along-others : (P : Plan) (gs : List Region) → (In k (vehicles_of gs) → ⊥) → along (without f k) P gs ≡ along f P gs
  unfolding along without
  along-others P [] h = refl
  along-others P (g ∷ gs) h = rw (ne_eqb g.vehicle k (λ e. h (inl (sym e))), along-others P gs (λ i. h (inr i)))

along-le : (f : ℕ → Route → ℕ) (P : Plan) (gs : List Region) → Stretches P gs → along f P gs ≤ over_routes f 0 P
unfolding along
along-le f P [] st = omega arith
along-le f P (g ∷ gs) st =
    let k : ℕ = g.vehicle in
    let i = along-le (without f k) P gs (later-stretches st) in
    omega (arith, i, one_out f k 0 k P (first-stretch st).known (omega arith), along-others f k P gs st.apart.0)

module _ (t : List ℕ) (p : Prices) where
  over-driving : (k : ℕ) (P : Plan) → table_driving t p k P ≡ over_routes (table_price t p) k P
  unfolding table_driving
  over-driving k [] = refl
  over-driving k (r ∷ P) = rw (over-driving (suc k) P)

  along-driving : (P : Plan) (gs : List Region) → gap_driving t p P gs ≡ along (table_price t p) P gs
  unfolding gap_driving along
  along-driving P [] = refl
  along-driving P (g ∷ gs) = rw (along-driving P gs)

  -- the regions' routes cost no more than all routes
  pub gap-le : (P : Plan) (gs : List Region) → Stretches P gs → gap_driving t p P gs ≤ table_driving t p 0 P
  gap-le P gs st = omega (arith, along-le (table_price t p) P gs st, over-driving 0 P, along-driving P gs)

-- ---- the regions' routes subtracted one after another

-- what the plan costs without the regions' routes
abbrev pub rest_of : Tariff → held.Plan → List Region → ℕ
rest_of t p regions = table_cost t.legs.table t.prices p.n (routes p) - gap_driving t.legs.table t.prices (routes p) regions

-- and with those of the regions from q on
abbrev pub left_from : Tariff → held.Plan → List Region → ℕ → ℕ
left_from t p regions q = rest_of t p regions + gap_driving t.legs.table t.prices (routes p) (drop q regions)

pub record Left (t : Tariff) (p : held.Plan) (regions : List Region) (q : ℕ) (r : Float) : Type 0 where
  pub up_to : q ≤ length regions
  pub small : left_from t p regions q ≤ exact
  pub sum : r ≡ whole (left_from t p regions q)

-- the first region's route stands apart
first-apart : (t : List ℕ) (p : Prices) (P : Plan) (g : Region) (gs : List Region)
    → gap_driving t p P (g ∷ gs) ≡ table_price t p g.vehicle (route_of P g.vehicle) + gap_driving t p P gs
unfolding gap_driving
first-apart t p P g gs = refl

none_left : (t : List ℕ) (p : Prices) (P : Plan) → gap_driving t p P [] ≡ 0
unfolding gap_driving
none_left t p P = refl

module _ (tariff : Tariff) (plan : held.Plan) (regions : List Region) (A : Arrangeable plan regions) where
  abbrev t : List ℕ
  t = tariff.legs.table

  abbrev p : Prices
  p = tariff.prices

  abbrev n : ℕ
  n = plan.n

  abbrev P : Plan
  P = routes plan

  abbrev gs : List Region
  gs = regions

  pub cost-exact : table_cost t p n P ≤ exact
  cost-exact = omega (
    arith,
    cost-small t p tariff.legs.lengths tariff.affordable n P plan.sizes.stops
        (omega (arith, lent_length plan.v n _ plan.lent, lent_placed plan.v n _ plan.lent, plan.sizes.vehicles, plan.sizes.stops)),
  )

  all_left : rest_of tariff plan regions + gap_driving t p P gs ≡ table_cost t p n P
  unfolding table_cost
  all_left = omega (arith, gap-le t p P gs A.gapped.stretches)

  pub left-none : (c : Float) → c ≡ whole (table_cost t p n P) → Left tariff plan regions 0 c
  left-none c e = record { up_to = omega arith; small = omega (arith, all_left, cost-exact); sum = e ∙ ap whole (sym all_left) }

  pub left-more : (q : ℕ) (r : Float) → Left tariff plan regions q r → q < length gs
      → (d : Float) → d ≡ whole (table_price t p (get_or gs q no_region).vehicle (route_of P (get_or gs q no_region).vehicle)) → Left tariff plan regions (q + 1) (sub binary64 r d)
  left-more q r L h d ed =
      let g : Region = get_or gs q no_region in
      let a : ℕ = table_price t p g.vehicle (route_of P g.vehicle) in
      let b : ℕ = gap_driving t p P (drop (q + 1) gs) in
      let e : gap_driving t p P (drop q gs) ≡ a + b =
      ap (gap_driving t p P) (drop-cons gs q no_region h)
      ∙ ap (λ (i : ℕ). gap_driving t p P (g ∷ drop i gs)) (sym (add-one q))
      ∙ first-apart t p P g (drop (q + 1) gs)
      in
      let f : left_from tariff plan regions q - a ≡ left_from tariff plan regions (q + 1) = omega arith in
      record {
        up_to = omega arith;
        small = omega (arith, L.small);
        sum = ap₂ (sub binary64) L.sum ed
            ∙ sub-whole (left_from tariff plan regions q) a L.small (omega (arith, L.small)) (omega arith)
            ∙ ap whole f;
      }

  pub left-all : (q : ℕ) (r : Float) → Left tariff plan regions q r → length gs ≤ q → Based tariff plan regions r
  left-all q r L h =
      let e : left_from tariff plan regions q ≡ rest_of tariff plan regions =
      let n₀ = ap (gap_driving t p P) (drop_of_length-le gs h) ∙ none_left t p P in omega arith
      in
      record {
        known = (left_from tariff plan regions q, L.small, L.sum);
        rest = omega (arith, amount-is r (left_from tariff plan regions q) L.small L.sum, e, all_left);
      }
