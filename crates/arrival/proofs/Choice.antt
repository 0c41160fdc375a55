-- The best so far is the choice among the places that were tried, one place after another and one route after another.
use mathlib.Core.Path.{◌≡◌, refl, sym, ap, ap₂, ◌∙◌, subst}
use Prim.Native.Nat.{ℕ, zero, suc, ◌+◌, ◌-◌, ◌≤◌, ◌<◌}
use native.Mathlib.Numerals.{add-one}
use native.Mathlib.Omega.{arith}
use mathlib.Core.Bool.{Bool, true, false, cond, ◌||◌}
use mathlib.Core.List.{List, [], ◌∷◌, ◌++◌}
use native.Mathlib.Decide.{dec_lt, ℕ_discrete}
use lib.Dec.{eqb, leb, ltb}
use lib.Ieee.{lt, le}
use lib.ListN.{length}
use borrow.Author.Tests.{lt-ltb, le-ltb, le-leb, lt-leb, eq-eqb, ne_eqb}
use Rattle.std.specs.Prelude.{Option, Some, None, is_none}
use Rattle.model.specs.declared.Prices.{Prices}
use Rattle.model.specs.Whole.{whole, amount, IsWhole}
use Rattle.model.specs.Plan.{Plan, Route, route_of, placed}
use Rattle.model.specs.Cost.{missed_cost}
use Rattle.model.specs.Live.{live_count, placing, placings, cheapest_or}
use Rattle.model.proofs.Placings.{stays, replaces, cheapest_or-more, passed, passed-more, passed-row, passed-all}
use Rattle.whole.proofs.Laws.{whole-amount, lt-amount, eq-amount}
use Rattle.solution.specs.declared.Place.{Place}
use Rattle.delivery.specs.Costs.{table_live}
use Rattle.arrival.specs.declared.Candidate.{Candidate}
use Rattle.arrival.specs.Places.{counted, better, cost_with, tried_on, plan_with, Among, Cheapest}
use Rattle.arrival.proofs.Weighing.{placing-cost}

-- ---- the better of two, by the outcome of a test

lt-or-eq : (a b : ℕ) → ltb a b || eqb a b ≡ leb a b
lt-or-eq a b = go (dec_lt a b) (ℕ_discrete a b)
  where
    go : Dec (a < b) → Dec (a ≡ b) → ltb a b || eqb a b ≡ leb a b
    go (yes h) d = rw (lt-ltb a b h, le-leb a b (omega arith)) refl
    go (no h) (yes e) = rw (le-ltb a b (omega arith), eq-eqb a b e, le-leb a b (omega arith)) refl
    go (no h) (no e) = rw (le-ltb a b (omega arith), ne_eqb a b e, lt-leb a b (omega arith)) refl

module _ (new best : Candidate) (N : IsWhole new.cost) (B : IsWhole best.cost) where
  le-amount : le new.cost best.cost ≡ leb (amount new.cost) (amount best.cost)
  unfolding le
  le-amount = ap₂ ◌||◌ (lt-amount new.cost best.cost N B) (eq-amount new.cost best.cost N B) ∙ lt-or-eq (amount new.cost) (amount best.cost)

  pub better-none : (x : Bool) → best.place ≡ None → le new.cost best.cost ≡ x → cond x (counted new) (counted best) ≡ better (counted new) (counted best)
  unfolding better
  better-none x e f = rw (e, ← le-amount, f) refl

  pub better-some : (x : Bool) (p : Place) → best.place ≡ Some p → lt new.cost best.cost ≡ x → cond x (counted new) (counted best) ≡ better (counted new) (counted best)
  unfolding better
  better-some x p e f = rw (e, ← lt-amount, f) refl

-- ---- the places of a route

module _ (t : List ℕ) (p : Prices) (k : ℕ) (r : Route) (c s : ℕ) (best : Option Place × ℕ) where
  pub tried-none : best ≡ tried_on t p k r c s 0 best
  unfolding tried_on
  tried-none = refl

  pub tried-more : (i x : ℕ) (b new : Option Place × ℕ) → x ≡ cost_with t p k r c s i → b ≡ tried_on t p k r c s i best
      → new ≡ better (Some (record { vehicle = k; position = i }), x) b → new ≡ tried_on t p k r c s (i + 1) best
  unfolding tried_on
  tried-more i x b new e f g = rw (add-one, g, e, f)

-- ---- the choice among the places tried

some-same : (x y : Place) → Some x ≡ Some y → x ≡ y
some-same x y e = cc

-- b is the choice of P and the plans Ps
pub record Chosen (weigh : Plan → ℕ) (s : ℕ) (P : Plan) (Ps : List Plan) (b : Option Place × ℕ) : Type 0 where
  pub place : (x : Place) → b.0 ≡ Some x → Among P x
  pub plan : plan_with s P b.0 ≡ cheapest_or weigh P Ps
  pub unplaced : is_none b.0 ≡ stays weigh P Ps
  pub cost : b.1 ≡ weigh (cheapest_or weigh P Ps)

module _ (weigh : Plan → ℕ) (s : ℕ) (P : Plan) where
  pub chosen_none : (c : ℕ) → c ≡ weigh P → Chosen weigh s P [] (None, c)
  chosen_none c e = record { place = λ x h. cc; plan = refl; unplaced = refl; cost = e }

  module _ (Ps : List Plan) (b : Option Place × ℕ) (C : Chosen weigh s P Ps b) where
    -- the test of the code is that of the choice
    test : (Q : Plan) → cond (is_none b.0) (leb (weigh Q) b.1) (ltb (weigh Q) b.1) ≡ replaces weigh P Ps Q
    test Q = go b.0 C.unplaced C.plan
      where
        go : (o : Option Place) → is_none o ≡ stays weigh P Ps → plan_with s P o ≡ cheapest_or weigh P Ps
            → cond (is_none o) (leb (weigh Q) b.1) (ltb (weigh Q) b.1) ≡ replaces weigh P Ps Q
        go None e f = rw (← e) (ap (leb (weigh Q)) (C.cost ∙ ap weigh (sym f)))
        go (Some x) e f = rw (← e) (ap (ltb (weigh Q)) C.cost)

    -- one place more
    pub chosen_more : (x : Place) (c : ℕ) → Among P x → c ≡ weigh (placing s P x.vehicle x.position)
        → Chosen weigh s P (Ps ++ (placing s P x.vehicle x.position ∷ [])) (better (Some x, c) b)
    unfolding better
    chosen_more x c h e =
        let Q : Plan = placing s P x.vehicle x.position in
        let m = cheapest_or-more weigh P Ps Q in
        go (replaces weigh P Ps Q) (rw e (test Q)) m.0 m.1
      where
        go : (y : Bool) → cond (is_none b.0) (leb c b.1) (ltb c b.1) ≡ y
            → cheapest_or weigh P (Ps ++ (placing s P x.vehicle x.position ∷ [])) ≡ cond y (placing s P x.vehicle x.position) (cheapest_or weigh P Ps)
            → stays weigh P (Ps ++ (placing s P x.vehicle x.position ∷ [])) ≡ cond y false (stays weigh P Ps)
            → Chosen weigh s P (Ps ++ (placing s P x.vehicle x.position ∷ [])) (cond (cond (is_none b.0) (leb c b.1) (ltb c b.1)) (Some x, c) b)
        go true t f u =
            rw t (record { place = λ y q. subst (Among P) (some-same x y q) h; plan = sym f; unplaced = sym u; cost = e ∙ ap weigh (sym f) })
        go false t f u =
            rw t (record { place = C.place; plan = C.plan ∙ sym f; unplaced = C.unplaced ∙ sym u; cost = C.cost ∙ ap weigh (sym f) })

-- ---- all places of a route

module _ (t : List ℕ) (p : Prices) (live s : ℕ) (P : Plan) (fewer : placed P < live_count live) (k : ℕ) (h : k < length P) where
  chosen-first : (i : ℕ) → i ≤ suc (length (route_of P k)) → (b : Option Place × ℕ) → Chosen (table_live t p live) s P (passed s P k 0) b
      → Chosen (table_live t p live) s P (passed s P k i) (tried_on t p k (route_of P k) (table_live t p live P - missed_cost p 1) s i b)
  unfolding tried_on
  chosen-first zero g b C = C
  chosen-first (suc i) g b C =
      rw (passed-more s P k i)
      (chosen_more (table_live t p live) s P (passed s P k i) (tried_on t p k (route_of P k) (table_live t p live P - missed_cost p 1) s i b) (chosen-first i (omega arith) b C)
      (record { vehicle = k; position = i }) (cost_with t p k (route_of P k) (table_live t p live P - missed_cost p 1) s i)
      (record { vehicle = h; position = omega arith }) (placing-cost t p P k h live fewer i s))

  pub chosen-row : (c : ℕ) (b new : Option Place × ℕ) → c ≡ table_live t p live P - missed_cost p 1 → new ≡ tried_on t p k (route_of P k) c s (suc (length (route_of P k))) b
      → Chosen (table_live t p live) s P (passed s P k 0) b → Chosen (table_live t p live) s P (passed s P (k + 1) 0) new
  chosen-row c b new ec en C =
      rw (add-one, en, ec, ← passed-row s P k (suc (length (route_of P k))) refl)
      (chosen-first (suc (length (route_of P k))) (omega arith) b C)

-- ---- all places

pub chosen-all : (weigh : Plan → ℕ) (s : ℕ) (P : Plan) (k : ℕ) (b : Candidate) → length P ≡ k → IsWhole b.cost
    → Chosen weigh s P (passed s P k 0) (counted b) → Cheapest weigh s P b
chosen-all weigh s P k b l w C =
    let e : passed s P k 0 ≡ placings s P = ap (λ (j : ℕ). passed s P j 0) (sym l) ∙ passed-all s P in
    record {
      place = C.place;
      plan = C.plan ∙ ap (cheapest_or weigh P) e;
      cost = sym (whole-amount b.cost w) ∙ ap whole (C.cost ∙ ap (λ (Ps : List Plan). weigh (cheapest_or weigh P Ps)) e);
    }
