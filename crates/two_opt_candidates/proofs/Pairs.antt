-- The move is the plan of the numbered candidate whose two routes are cheapest over the leg table.
use Prim.Native.Nat.{ℕ, ◌+◌, ◌/◌, ◌%◌, ◌<◌, ◌≤◌}
use native.Mathlib.Omega.{arith}
use mathlib.Core.Path.{◌≡◌, refl, sym, ap, ap₂, ◌∙◌}
use mathlib.Core.Logic.{◌≢◌}
use mathlib.Core.Bool.{Bool, true, false, cond}
use mathlib.Core.List.{List, [], ◌∷◌, ◌++◌, map}
use lib.Dec.{eqb, ltb}
use lib.ListN.{length, length-append, length-reverse, take-append-drop}
use Rattle.model.specs.declared.Prices.{Prices}
use Rattle.model.specs.Lists.{concat, up_from, position, count}
use Rattle.model.specs.Job.{Job}
use Rattle.model.specs.Plan.{Plan, Route, route_of, Sizes}
use Rattle.model.specs.Legs.{Fits}
use Rattle.model.specs.Cost.{price, cost}
use Rattle.model.specs.TwoOpt.{cheapest, set_route, turned, inter}
use Rattle.model.proofs.Lists.{count-append, change-none}
use Rattle.model.proofs.Counts.{count-route, length-kept}
use Rattle.model.proofs.Cost.{route_cost, cost-routes, cheaper-alike}
use Rattle.model.proofs.Moves.{Moved, moved-routes, count-turned, count-exchanged}
use Rattle.distance.specs.Ways.{Below}
use Rattle.distance.proofs.Laws.{way-route}
use Rattle.delivery.specs.Costs.{table_price}
use Rattle.two_opt_candidates.specs.Pairs.{pair_of, candidate, plan_at, least, price_at, least_pair}
use Rattle.two_opt_candidates.proofs.Repeats.{inter-numbered}

-- ---- the first of the cheapest

pub least-append : (f : ℕ → ℕ) (cs ds : List ℕ) (best : ℕ × ℕ) → least f (cs ++ ds) best ≡ least f ds (least f cs best)
least-append f [] ds best = refl
least-append f (c ∷ cs) ds best = least-append f cs ds (cond (ltb (f c) best.1) (c, f c) best)

-- Where prices differ as costs do, the plan of the first of the cheapest numbers is the first of the cheapest plans.
module _ (J : Job) (plan : ℕ → Plan) (f : ℕ → ℕ) (K L : ℕ) (same : (c : ℕ) → cost J (plan c) + K ≡ L + f c) where
  least-plan : (code : ℕ) (cs : List ℕ) → cheapest J (plan code) (map plan cs) ≡ plan (least f cs (code, f code)).0
  least-plan code [] = refl
  least-plan code (c ∷ cs) =
      let e : ltb (cost J (plan c)) (cost J (plan code)) ≡ ltb (f c) (f code) =
      cheaper-alike (cost J (plan c)) (cost J (plan code)) (f c) (f code) (omega (arith, same c, same code))
      in
      ap (λ (t : Bool). cheapest J (cond t (plan c) (plan code)) (map plan cs)) e ∙ go (ltb (f c) (f code)) (λ k. least-plan k cs)
    where
      go : (t : Bool) → ((k : ℕ) → cheapest J (plan k) (map plan cs) ≡ plan (least f cs (k, f k)).0)
          → cheapest J (cond t (plan c) (plan code)) (map plan cs) ≡ plan (least f cs (cond t (c, f c) (code, f code))).0
      go true ih = ih c
      go false ih = ih code

-- ---- the candidates

-- no stop is lost, and none is won
module _ (ra : Route) (i : ℕ) (rb : Route) (j code : ℕ) where
  pub pair-counts : (x : ℕ) → count x (pair_of ra i rb j code).0 + count x (pair_of ra i rb j code).1 ≡ count x ra + count x rb
  pair-counts x = count-exchanged x (eqb (code / 2 % 2) 0) (eqb (code % 2) 0) ra (i + code / 8 % 2) rb (j + code / 4 % 2)

  pub pair-lengths : length (pair_of ra i rb j code).0 + length (pair_of ra i rb j code).1 ≡ length ra + length rb
  pair-lengths =
      let x : Route = (pair_of ra i rb j code).0 in
      let y : Route = (pair_of ra i rb j code).1 in
      let e : length (x ++ y) ≡ length (ra ++ rb) =
      length-kept (x ++ y) (ra ++ rb) (λ z. omega (arith, count-append z x y, count-append z ra rb, pair-counts z))
      in
      omega (arith, length-append x y, length-append ra rb)

pub length-turned : (t : Bool) (r : Route) → length (turned t r) ≡ length r
length-turned true r = length-reverse r
length-turned false r = refl

module _ (ra : Route) (s : ℕ) (rb : Route) (t code : ℕ) where
  xa : Route
  xa = turned (eqb (code / 32 % 2) 1) ra

  xb : Route
  xb = turned (eqb (code / 16 % 2) 1) rb

  candidate-counts : (x : ℕ) → count x (candidate ra s rb t code).0 + count x (candidate ra s rb t code).1 ≡ count x ra + count x rb
  unfolding xa xb
  candidate-counts x =
      omega (
        arith,
        pair-counts xa (position s xa) xb (position t xb) code x,
        count-turned x (eqb (code / 32 % 2) 1) ra,
        count-turned x (eqb (code / 16 % 2) 1) rb,
      )

  candidate-lengths : length (candidate ra s rb t code).0 + length (candidate ra s rb t code).1 ≡ length ra + length rb
  unfolding xa xb
  candidate-lengths =
      omega (
        arith,
        pair-lengths xa (position s xa) xb (position t xb) code,
        length-turned (eqb (code / 32 % 2) 1) ra,
        length-turned (eqb (code / 16 % 2) 1) rb,
      )

-- number 0 is the old plan
pub plan-old : (P : Plan) (a s b t : ℕ) → plan_at P a s b t 0 ≡ P
plan-old P a s b t =
    rw (take-append-drop (position s (route_of P a) + 0) (route_of P a), take-append-drop (position t (route_of P b) + 0) (route_of P b))
    (ap (λ (Q : Plan). set_route b (route_of P b) Q) (change-none a (λ _. route_of P a) P [] refl) ∙ change-none b (λ _. route_of P b) P [] refl)

module _ (P : Plan) (a s b t : ℕ) (ha : a < length P) (hb : b < length P) (ne : a ≢ b) (code : ℕ) where
  pub plan-moved : Moved P (plan_at P a s b t code)
  plan-moved =
      let x = candidate (route_of P a) s (route_of P b) t code in
      moved-routes a b x.0 x.1 P ha hb (λ e. ne (sym e)) (candidate-counts (route_of P a) s (route_of P b) t code)

-- ---- over a leg table that fits a job

module _ (J : Job) (table : List ℕ) (v n : ℕ) (p : Prices) (F : Fits J table v n p) (S : Sizes v n) where
  way-cost : (k : ℕ) (r : Route) → k < v → Below n r → table_price table p k r ≡ route_cost J k r
  way-cost k r h N = ap₂ price (sym F.prices) (way-route J table v n p F k r h N (λ s c. omega (arith, N s c, S.stops)))

  module _ (P : Plan) (a s b t : ℕ) (ha : a < v) (hb : b < v) (ne : a ≢ b) (e : length P ≡ v) (N : Below n (concat P)) where
    -- a candidate's price differs from that of the old routes as its plan's cost does
    price-cost : (code : ℕ) → cost J (plan_at P a s b t code) + (route_cost J a (route_of P a) + route_cost J b (route_of P b))
        ≡ cost J P + price_at table p a (route_of P a) s b (route_of P b) t code
    price-cost code =
        let x = candidate (route_of P a) s (route_of P b) t code in
        let both : (z : ℕ) → 1 ≤ count z x.0 + count z x.1 → z < n =
        λ z h. N z (omega (arith, candidate-counts (route_of P a) s (route_of P b) t code z, count-route z P a, count-route z P b))
        in
        omega (
          arith,
          cost-routes J a b x.0 x.1 P (omega arith) (omega arith) (λ q. ne (sym q)) (candidate-lengths (route_of P a) s (route_of P b) t code),
          way-cost a x.0 ha (λ z h. both z (omega arith)),
          way-cost b x.1 hb (λ z h. both z (omega arith)),
        )

    pub inter-least : inter J P a s b t ≡ plan_at P a s b t (least_pair table p a (route_of P a) s b (route_of P b) t).0
    unfolding least_pair
    inter-least =
        inter-numbered J P a s b t
        ∙ ap (λ (Q : Plan). cheapest J Q (map (plan_at P a s b t) (up_from 0 64))) (sym (plan-old P a s b t))
        ∙ least-plan J (plan_at P a s b t) (price_at table p a (route_of P a) s b (route_of P b) t)
        (route_cost J a (route_of P a) + route_cost J b (route_of P b)) (cost J P) price-cost 0 (up_from 0 64)
