-- An accepted call: the tariff of its job, the plan that is held of the one that it was lent, and what is left in that one.
use mathlib.Core.Path.{◌≡◌, ◌∙◌}
use mathlib.Core.Bool.{true}
use mathlib.Core.List.{List}
use Prim.Native.Nat.{ℕ}
use Rattle.model.specs.Lists.{member}
use Rattle.model.specs.Job.{vehicle_count, stop_count}
use Rattle.model.specs.Plan.{encode, decode, Lent, Sizes}
use Rattle.model.specs.Plan as form
use Rattle.model.specs.Legs.{Affordable, Fits}
use Rattle.model.specs.Refusals.{Arguments, Call, asked, refusal}
use Rattle.distance.specs.Table.{InLimits, LegsOf}
use Rattle.distance.specs.declared.tariff.Tariff.{Tariff}
use Rattle.solution.specs.declared.plan.Plan.{Plan}
use Rattle.solution.specs.Held.{numbers_of, routes, Becomes}
use Rattle.solution.proofs.Holding.{read-routes}
use Rattle.call_refusals.proofs.Accepted.{priced-table, listed, affordable, lent}

-- what is asked to make them
module _ (c : Call) (A : Arguments) (e : refusal c A ≡ 0) where
  pub weighable : member 8 (asked c) ≡ true → InLimits A.job.vehicles A.job.stops A.job.locations A.job.distances × Affordable A.job.prices
  weighable m = ((listed c A e).limits (priced-table c m), affordable c A e m)

  pub holdable : member 11 (asked c) ≡ true → Sizes (vehicle_count A.job) (stop_count A.job) × Lent (vehicle_count A.job) (stop_count A.job) A.plan
  holdable m = ((listed c A e).sizes, lent c A e m)

-- p is the plan held
module _ (A : Arguments) (p : Plan) (h : (p.v ≡ vehicle_count A.job) × (p.n ≡ stop_count A.job) × (numbers_of p ≡ A.plan)) where
  -- its routes are those of the lent plan
  pub same : routes p ≡ decode (vehicle_count A.job) A.plan
  same = read-routes (vehicle_count A.job) A.plan p h.0 h.2

  -- the tariff and the sizes are those of the job
  pub job's : (t : Tariff) → LegsOf A.job.vehicles A.job.stops A.job.locations A.job.distances t.legs.table → t.prices ≡ A.job.prices
      → Fits A.job t.legs.table p.v p.n t.prices
  job's t L e = rw (h.0, h.1, e) (L.fits A.job.prices)

  -- and the lent plan is left as the held one has become
  pub left : (xs : List ℕ) (next : Plan) (Q : form.Plan) → xs ≡ numbers_of next → Becomes p next Q → xs ≡ encode (stop_count A.job) Q
  left xs next Q e b = e ∙ rw h.1 at b.form
