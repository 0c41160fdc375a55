-- What the routes of two vehicles cost, and what all routes do.
use Prim.Native.Nat.{ℕ, ◌+◌, ◌<◌}
use native.Mathlib.Omega.{arith}
use native.Mathlib.Nat.{zero-add}
use mathlib.Core.Path.{◌≡◌, refl, sym, ap, ap₂}
use mathlib.Core.Logic.{◌≢◌, inl, inr}
use mathlib.Core.List.{[]}
use mathlib.Core.Bool.{cond}
use lib.Dec.{eqb}
use lib.ListN.{length}
use Rattle.model.specs.Lists.{change}
use Rattle.model.specs.Plan.{Plan, Route, route_of}
use Rattle.model.specs.Cost.{over_routes}
use Rattle.model.proofs.Lists.{Tested, tested, length-change, get_or-change, get_or-change-other}
use Rattle.model.proofs.Vans.{over-change}
use Rattle.relocation.specs.Moving.{pair_price}

module _ (f : ℕ → Route → ℕ) where
  -- one route, and two
  module _ (P : Plan) (a b w : ℕ) (W : w ≡ f a (route_of P a)) where
    pub pair_one : a ≡ b → w ≡ pair_price f P a b
    pair_one e = elim (tested a b) [ inl q ↦ rw q.1 (omega arith) | inr q ↦ absurd (q.0 e) ]

    pub pair-two : a ≢ b → (u : ℕ) → u ≡ f b (route_of P b) → w + u ≡ pair_price f P a b
    pair-two h u U = elim (tested a b) [ inl q ↦ absurd (h q.0) | inr q ↦ rw q.1 (omega arith) ]

  -- one route changes
  pub over-one : (P : Plan) (k : ℕ) (g : Route → Route) → k < length P
      → over_routes f 0 (change k g P) + f k (route_of P k) ≡ over_routes f 0 P + f k (route_of (change k g P) k)
  over-one P k g h = rw (get_or-change k g P [] h) (rw zero-add at (over-change f 0 k g P h))

  -- the route of vehicle a changes, and then that of vehicle b, which may be the same
  module _ (P : Plan) (a b : ℕ) (g h : Route → Route) (A : a < length P) (B : b < length P) where
    abbrev half : Plan
    half = change a g P

    abbrev whole : Plan
    whole = change b h half

    pub over-two : over_routes f 0 whole + pair_price f P a b ≡ over_routes f 0 P + pair_price f whole a b
    over-two = go (tested a b) (over-one P a g A) (over-one half b h (rw length-change B))
      where
        go : Tested a b
            → over_routes f 0 half + f a (route_of P a) ≡ over_routes f 0 P + f a (route_of half a)
            → over_routes f 0 whole + f b (route_of half b) ≡ over_routes f 0 half + f b (route_of whole b)
            → over_routes f 0 whole + pair_price f P a b ≡ over_routes f 0 P + pair_price f whole a b
        go (inl q) first second =
            let same : f a (route_of half a) ≡ f b (route_of half b) = ap (λ (k : ℕ). f k (route_of half k)) q.0 in
            let last : f a (route_of whole a) ≡ f b (route_of whole b) = ap (λ (k : ℕ). f k (route_of whole k)) q.0 in
            omega (arith, pair_one P a b (f a (route_of P a)) refl q.0, pair_one whole a b (f a (route_of whole a)) refl q.0)
        go (inr q) first second =
            let kept : f b (route_of half b) ≡ f b (route_of P b) = ap (f b) (get_or-change-other a b g P [] (λ e. q.0 (sym e))) in
            let last : f a (route_of whole a) ≡ f a (route_of half a) = ap (f a) (get_or-change-other b a h half [] q.0) in
            omega (arith, pair-two P a b (f a (route_of P a)) refl q.0 (f b (route_of P b)) refl, pair-two whole a b (f a (route_of whole a)) refl q.0 (f b (route_of whole b)) refl)

  -- two prices that agree on both routes
  pub pair-alike : (g : ℕ → Route → ℕ) (P : Plan) (a b : ℕ) → f a (route_of P a) ≡ g a (route_of P a) → f b (route_of P b) ≡ g b (route_of P b)
      → pair_price f P a b ≡ pair_price g P a b
  pair-alike g P a b A B = ap₂ (λ (x y : ℕ). x + cond (eqb a b) 0 y) A B
