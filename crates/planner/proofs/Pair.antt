-- One pair's two-opt: two given stops differ, and the plan that is left is weighed as it is read back.
use mathlib.Core.Path.{◌≡◌, ap, ◌∙◌}
use mathlib.Core.Logic.{◌≢◌}
use mathlib.Core.List.{[], ◌∷◌}
use Prim.Native.Nat.{ℕ}
use lib.Ieee.{Float}
use Rattle.model.specs.Lists.{Once}
use Rattle.model.specs.Whole.{whole}
use Rattle.model.specs.Job.{Job}
use Rattle.model.specs.Cost.{cost}
use Rattle.model.specs.TwoOpt.{two_opt}
use Rattle.model.specs.Plan as form
use Rattle.model.proofs.PlanForm.{lent_length}
use Rattle.model.proofs.Moves.{pairs-apart, two_opt-moved}
use Rattle.solution.specs.declared.plan.Plan.{Plan}
use Rattle.solution.specs.Held.{numbers_of, routes, Becomes}
use Rattle.solution.proofs.Holding.{holds-routes}

pub apart : (s t : ℕ) → Once (s ∷ t ∷ []) → s ≢ t
apart s t o = (pairs-apart (s ∷ t ∷ []) o).0

pub pair-weighed : (J : Job) (p q : Plan) (s t : ℕ) (f : Float) → s ≢ t → Becomes p q (two_opt J (routes p) s t)
    → f ≡ whole (cost J (routes q)) → f ≡ whole (cost J (two_opt J (routes p) s t))
pair-weighed J p q s t f d b h =
    h
    ∙ ap (λ (P : form.Plan). whole (cost J P))
    (holds-routes p.v p.n _ q b ((two_opt-moved J (routes p) s t d).routes ∙ lent_length p.v p.n (numbers_of p) p.lent))
