-- A plan that is held is lent, within the limits, with the legs and the prices of a tariff.
use Prim.Native.Nat.{ℕ}
use mathlib.Core.Path.{◌≡◌}
use mathlib.Core.List.{List}
use Rattle.model.specs.Plan.{route_of}
use Rattle.distance.specs.Ways.{Drivable}
use Rattle.distance.specs.declared.tariff.Tariff.{Tariff}
use Rattle.solution.specs.declared.plan.Plan.{Plan}
use Rattle.solution.specs.Held.{numbers_of, routes}
use Rattle.delivery.specs.Costs.{Ready}
use Rattle.delivery.proofs.Laws.{lent-drivable}

module _ (t : Tariff) (p : Plan) where
  pub ready : Ready t.legs.table p.v p.n t.prices (numbers_of p)
  ready = record { legs = t.legs.lengths; sizes = p.sizes; prices = t.affordable; plan = p.lent }

  -- the same of what is read as its form
  pub read : (xs : List ℕ) → xs ≡ numbers_of p → Ready t.legs.table p.v p.n t.prices xs
  read xs e = rw e ready

  -- each of its routes can be driven
  pub drivable : (k : ℕ) → Drivable (route_of (routes p) k)
  drivable = lent-drivable t.legs.table p.v p.n t.prices (numbers_of p) ready
