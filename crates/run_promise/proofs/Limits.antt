-- Within the limits no plan of a job costs more than 2 ^ 53, whatever its stops are.
use Prim.Native.Nat.{ℕ, ◌+◌, ◌-◌, ◌≤◌}
use native.Mathlib.Omega.{arith}
use lib.ListN.{length, get_or}
use Rattle.model.specs.Whole.{exact}
use Rattle.model.specs.Job.{Job, stop_count}
use Rattle.model.specs.Plan.{Plan, placed}
use Rattle.model.specs.Legs.{Affordable}
use Rattle.model.specs.Cost.{cost}
use Rattle.model.proofs.Cost.{cost-is}
use Rattle.delivery.proofs.Laws.{missed-small}
use Rattle.delivery.proofs.Limits.{driving-limit}

module _ (J : Job) (short : (i : ℕ) → get_or J.distances i 0 ≤ 200000) (A : Affordable J.prices) where
  pub cost-small : stop_count J ≤ 64 → (P : Plan) → placed P + length P ≤ 80 → cost J P ≤ exact
  cost-small N P h =
      omega (arith, cost-is J P, driving-limit J short A P h, missed-small J.prices A (stop_count J - placed P) (omega arith))
