-- The price of one route, from the f64 that the code has of it.
use Prim.Native.Nat.{ℕ, ◌≤◌}
use native.Mathlib.Omega.{arith}
use mathlib.Core.Path.{◌≡◌, ap, ◌∙◌}
use mathlib.Core.List.{List}
use lib.Ieee.{Float}
use Rattle.model.specs.declared.Prices.{Prices}
use Rattle.model.specs.Whole.{whole, exact, amount, IsWhole}
use Rattle.model.specs.Plan.{Route}
use Rattle.model.specs.Legs.{depot, Affordable}
use Rattle.model.specs.Cost.{price}
use Rattle.whole.proofs.Laws.{amount-is, amount-small}
use Rattle.distance.specs.Ways.{table_legs, RouteLength}
use Rattle.delivery.specs.Costs.{table_price}
use Rattle.delivery.proofs.Laws.{price-small}

module _ (p : Prices) (A : Affordable p) (t : List ℕ) (k : ℕ) (r : Route) (d : ℕ) (D : RouteLength t k r d) (c : Float) (C : c ≡ whole (price p d)) where
  small : price p d ≤ exact
  small = omega (arith, price-small p A d (omega (arith, D.small)))

  pub price-whole : IsWhole c
  price-whole = (price p d, small, C)

  -- r is the route R of a plan
  pub price-amount : (R : Route) → r ≡ R → (w : ℕ) → w ≡ amount c → (w ≡ table_price t p k R) × (w ≤ exact)
  price-amount R E w W =
      let way : d ≡ table_legs t (depot k) R (depot k) = D.way ∙ ap (λ (q : Route). table_legs t (depot k) q (depot k)) E in
      (W ∙ amount-is c (price p d) small C ∙ ap (price p) way, omega (arith, W, amount-small c price-whole))
