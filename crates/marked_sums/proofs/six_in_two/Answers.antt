use Rattle.std.proofs.Common.{[], ◌∷◌, refl, ◌∙◌, arith}
use Rattle.model.specs.Plan.{decode, is_plan}
use Rattle.model.proofs.PlanForm.{is_plan-lent}
use Rattle.model.proofs.Fillings.{six-in-two}
use Rattle.marked_sums.proofs.Plans.{first, later, gapped, drains}
use Rattle.marked_sums.proofs.six_in_two.Goals as goal

pub hold-plan-requires : goal.hold-plan-requires
unfolding decode is_plan
hold-plan-requires c = (record { vehicles = omega arith; stops = omega arith }, is_plan-lent 2 6 _ refl refl)

pub count-requires : goal.count-requires
unfolding decode
count-requires c =
    let h = c.hold-plan.ensures in
    (gapped 2 6 _ _ h _ (omega arith) refl refl, omega (arith, drains 2 6 _ c.hold-plan.result h (first 6 ∷ later 1 ∷ []) 6 refl))

pub returns : goal.returns
unfolding decode
returns c =
    let e = six-in-two _ _ refl (drains 2 6 _ c.hold-plan.result c.hold-plan.ensures (first 6 ∷ later 1 ∷ []) 6 refl) in
    (c.count.ensures.begun_value ∙ e.0, c.count.ensures.completed_value ∙ e.1)
