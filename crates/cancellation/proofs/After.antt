-- The plan after a cancellation can be weighed again, and what it costs.
use Prim.Native.Nat.{ℕ, ◌≤◌}
use mathlib.Core.Path.{◌≡◌, ◌∙◌}
use lib.ListN.{length}
use lib.Ieee.{Float}
use Rattle.model.specs.Whole.{whole}
use Rattle.model.specs.Job.{Job}
use Rattle.model.specs.Plan.{placed}
use Rattle.model.specs.StopSet.{excluding}
use Rattle.model.specs.Live.{live_count, live_cost, cancelled}
use Rattle.model.proofs.Live.{cancelled-routes, cancelled-once}
use Rattle.model.proofs.PlanForm.{lent_length}
use Rattle.stop_set.proofs.Live.{placed-le, cancelling-covers}
use Rattle.distance.specs.declared.tariff.Tariff.{Tariff}
use Rattle.solution.specs.declared.plan.Plan.{Plan}
use Rattle.solution.specs.Held.{routes, Becomes}
use Rattle.solution.proofs.Holding.{holds-routes}
use Rattle.delivery.specs.Held.{IsJobOf, IsLiveCost}
use Rattle.joining.proofs.Leaving.{cancelled-below}
use Rattle.cancellation.specs.Cancelling.{Cancelling}

-- next is what the code leaves, and rest the set without the stop
module _ (t : Tariff) (old next : Plan) (live s rest : ℕ) (C : Cancelling old live s) (b : Becomes old next (cancelled s (routes old))) (er : rest ≡ excluding s live) where
  left : routes next ≡ cancelled s (routes old)
  left = holds-routes old.v old.n (cancelled s (routes old)) next b (cancelled-routes s (routes old) ∙ lent_length old.v old.n _ old.lent)

  pub weighable : placed (routes next) ≤ live_count rest
  weighable =
      let few = old.sizes.stops in
      let below = cancelled-below old.n s (routes old) old.lent.once old.lent.below in
      rw (left, er)
      (placed-le old.n (excluding s live) (cancelled s (routes old)) few below (cancelled-once s (routes old) old.lent.once)
      (cancelling-covers old.n live (routes old) few old.lent.below old.lent.once C.covers s))

  pub costs : (c : Float) → IsLiveCost t next rest c → (J : Job) → IsJobOf J t old → c ≡ whole (live_cost J (excluding s live) (cancelled s (routes old)))
  costs c L J f = rw (left, er) at (L.job J (rw (b.vehicles, b.stops) f))
