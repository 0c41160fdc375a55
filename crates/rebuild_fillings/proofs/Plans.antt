-- The plans that the walk meets, in order: the arrangements. The choice among them, step by step. No two of them are the same.
use Prim.Native.Nat.{ℕ, ◌+◌, ◌<◌}
use mathlib.Core.Path.{◌≡◌, ap, ◌∙◌}
use mathlib.Core.Bool.{cond}
use mathlib.Core.List.{List, [], ◌∷◌, ◌++◌, map}
use Rattle.model.specs.Lists.{without}
use Rattle.model.specs.Job.{Job}
use Rattle.model.specs.Plan.{Plan}
use Rattle.model.specs.Rebuild.{better, choose}
use Rattle.model.proofs.Lists.{map-append}
use Rattle.model.proofs.Choice.{choose-append}
use Rattle.rebuild_fillings.specs.Walk.{Filling, fillings_from, fillings_at, plans_from, plans_at}
use Rattle.rebuild_fillings.proofs.Walk.{from_next, from_last, at-stop, at_none}

-- ---- the steps of the walk

module _ (plan : Filling → Plan) (p q : ℕ) (left : List ℕ) (done : Filling) (here : List ℕ) where
  -- gap q is closed and the next one opened; then a stop more in gap q
  pub plans-next : q + 1 < p
      → plans_from plan p q left done here ≡ plans_from plan p (q + 1) left (done ++ here ∷ []) [] ++ plans_at plan p q left done here left
  unfolding plans_from plans_at
  plans-next h =
      ap (map plan) (from_next p q left done here h)
      ∙ map-append plan (fillings_from p (q + 1) left (done ++ here ∷ []) []) (fillings_at p q left done here left)

  -- gap q is the last: the plan of what is placed is met
  pub plans-last : q + 1 ≡ p → plans_from plan p q left done here ≡ plan (done ++ here ∷ []) ∷ plans_at plan p q left done here left
  unfolding plans_from plans_at
  plans-last h = ap (map plan) (from_last p q left done here h)

  -- stop s next in gap q, and the stops after it
  pub plans-stop : (s : ℕ) (next : List ℕ)
      → plans_at plan p q left done here (s ∷ next) ≡ plans_from plan p q (without s left) done (here ++ s ∷ []) ++ plans_at plan p q left done here next
  unfolding plans_from plans_at
  plans-stop s next =
      ap (map plan) (at-stop p q left done here s next)
      ∙ map-append plan (fillings_from p q (without s left) done (here ++ s ∷ [])) (fillings_at p q left done here next)

  pub plans-none : plans_at plan p q left done here [] ≡ []
  unfolding plans_at
  plans-none = ap (map plan) (at_none p q left done here)

  -- ---- the choice, step by step

  module _ (J : Job) (best : Plan) where
    pub choose-next : q + 1 < p
        → choose J best (plans_from plan p q left done here)
        ≡ choose J (choose J best (plans_from plan p (q + 1) left (done ++ here ∷ []) [])) (plans_at plan p q left done here left)
    choose-next h =
        ap (choose J best) (plans-next h)
        ∙ choose-append J best (plans_from plan p (q + 1) left (done ++ here ∷ []) []) (plans_at plan p q left done here left)

    pub choose-last : q + 1 ≡ p
        → choose J best (plans_from plan p q left done here)
        ≡ choose J (cond (better J (plan (done ++ here ∷ [])) best) (plan (done ++ here ∷ [])) best) (plans_at plan p q left done here left)
    choose-last h = ap (choose J best) (plans-last h)

    pub choose-stop : (s : ℕ) (next : List ℕ)
        → choose J best (plans_at plan p q left done here (s ∷ next))
        ≡ choose J (choose J best (plans_from plan p q (without s left) done (here ++ s ∷ []))) (plans_at plan p q left done here next)
    choose-stop s next =
        ap (choose J best) (plans-stop s next)
        ∙ choose-append J best (plans_from plan p q (without s left) done (here ++ s ∷ [])) (plans_at plan p q left done here next)

    pub choose-none : choose J best (plans_at plan p q left done here []) ≡ best
    choose-none = ap (choose J best) plans-none
