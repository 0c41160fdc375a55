-- The number that a view or a move is refused with, on two plans of the same form: it depends on them by the test of the move alone.
use mathlib.Core.Path.{◌≡◌}
use mathlib.Core.List.{List}
use Prim.Native.Nat.{ℕ}
use Rattle.model.specs.Job.{Job, vehicle_count, stop_count}
use Rattle.model.specs.Plan.{Lent, decode}
use Rattle.model.specs.Vans.{bad_move}
use Rattle.model.specs.declared.Move.{Move}
use Rattle.model.specs.Refusals.{looking, moving, View, MoveStop, refusal}
use Rattle.model.proofs.PlanForm.{lent-4, lent-11}

module _ (J : Job) (xs ys : List ℕ) (p : Lent (vehicle_count J) (stop_count J) xs) (q : Lent (vehicle_count J) (stop_count J) ys) where
  pub view-alike : (vans : ℕ) (seen : List ℕ) → refusal View (looking J xs vans seen) ≡ refusal View (looking J ys vans seen)
  unfolding refusal
  view-alike vans seen =
      rw (lent-4 _ _ xs p, lent-4 _ _ ys q, lent-11 _ _ xs p, lent-11 _ _ ys q)

  pub move-alike : (vans : ℕ) (m : Move) → bad_move vans m (decode (vehicle_count J) xs) ≡ bad_move vans m (decode (vehicle_count J) ys)
      → refusal MoveStop (moving J xs vans m) ≡ refusal MoveStop (moving J ys vans m)
  unfolding refusal
  move-alike vans m b =
      rw (lent-4 _ _ xs p, lent-4 _ _ ys q, lent-11 _ _ xs p, lent-11 _ _ ys q, b)
