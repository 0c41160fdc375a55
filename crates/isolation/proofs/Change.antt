-- The change that a move answers is the change of the whole plan's cost: nobody else's van changes.
use Prim.Native.Nat.{ℕ, ◌+◌, ◌-◌, ◌<◌}
use native.Mathlib.Omega.{arith}
use native.Mathlib.Nat.{zero-add}
use mathlib.Core.Path.{◌≡◌, refl, sym, ap, ◌∙◌}
use mathlib.Core.Logic.{◌≢◌}
use mathlib.Core.Bool.{Bool, true, false, cond, ◌&&◌, not, true≢false}
use lib.IntN.{sub_ℕ}
use lib.ListN.{length}
use borrow.Author.Tests.{not-false}
use Rattle.model.specs.Lists.{concat, Once}
use Rattle.model.specs.StopSet.{contains}
use Rattle.model.specs.Job.{Job, stop_count}
use Rattle.model.specs.Plan.{Plan, Route, route_of, vehicle_of, is_placed, placed}
use Rattle.model.specs.Cost.{cost, over_routes, route_price}
use Rattle.model.specs.Vans.{Held, unplaced, moved, own_price, own_cost, cost_change, on_others_van}
use Rattle.model.specs.declared.Move.{Move}
use Rattle.model.proofs.Counts.{Below}
use Rattle.model.proofs.Cost.{cost-is}
use Rattle.model.proofs.Locate.{vehicle-none}
use Rattle.model.proofs.Vans.{over-alike, over_add, driving_cost-over, unplaced-length, moved_length, moved-once, moved-below, moved-untouched, apart-alike}

-- what the route of another's van costs
abbrev others_price : Job → ℕ → ℕ → Route → ℕ
others_price J vans k r = cond (contains k vans) 0 (route_price J k r)

own-or-other : (b : Bool) (x : ℕ) → x ≡ cond b x 0 + cond b 0 x
own-or-other true x = omega arith
own-or-other false x = omega arith

-- the cost is the caller's part and the others' routes
cost-parts : (J : Job) (vans : ℕ) (P : Plan) → Once (concat P) → Below (stop_count J) (concat P)
    → cost J P ≡ own_cost J vans P + over_routes (others_price J vans) 0 P
unfolding own_cost
cost-parts J vans P once below =
    let n : ℕ = stop_count J in
    let m : n - placed P ≡ length (unplaced n P) = omega (arith, unplaced-length n P once below) in
    let d = over_add (own_price J vans) (others_price J vans) (route_price J) (λ k r. own-or-other (contains k vans) (route_price J k r)) 0 P in
    rw (cost-is J P, m) (omega (arith, driving_cost-over J P))

module _ (J : Job) (vans : ℕ) (m : Move) (P : Plan) (once : Once (concat P)) (H : Held vans m P) where
  -- no van of another is the one that the stop leaves
  source : (j : ℕ) → j < length P → contains j vans ≡ false → j ≢ vehicle_of m.stop P
  unfolding on_others_van
  source j l c q = go (is_placed m.stop P) refl H.source
    where
      go : (b : Bool) → is_placed m.stop P ≡ b → (b && not (contains (vehicle_of m.stop P) vans)) ≡ false → ⊥
      go true on h = true≢false (sym (not-false _ h) ∙ sym (ap (λ (k : ℕ). contains k vans) q) ∙ c)
      go false off h = omega (arith, vehicle-none m.stop P off)

  -- so the others' routes stay
  others-stay : over_routes (others_price J vans) 0 (moved m P) ≡ over_routes (others_price J vans) 0 P
  others-stay = sym (over-alike (others_price J vans) 0 P (moved m P) (sym (moved_length m P)) (λ j l. rw zero-add (stay j l (contains j vans) refl)))
    where
      stay : (j : ℕ) → j < length P → (b : Bool) → contains j vans ≡ b
          → cond b 0 (route_price J j (route_of P j)) ≡ cond b 0 (route_price J j (route_of (moved m P) j))
      stay j l true c = refl
      stay j l false c =
          let target : j ≢ m.van = λ q. true≢false (sym H.target ∙ sym (ap (λ (k : ℕ). contains k vans) q) ∙ c) in
          sym (ap (route_price J j) (moved-untouched m P once j target (source j l c)))

  pub change-whole : m.van < length P → Below (stop_count J) (concat P) → m.stop < stop_count J
      → cost_change J vans m P ≡ sub_ℕ (cost J (moved m P)) (cost J P)
  unfolding cost_change
  change-whole van below known =
      let old = cost-parts J vans P once below in
      let new = cost-parts J vans (moved m P) (moved-once m P once van) (moved-below m P once van (stop_count J) known below) in
      apart-alike (own_cost J vans (moved m P)) (own_cost J vans P) (cost J (moved m P)) (cost J P) (omega (arith, others-stay))
