use Rattle.std.proofs.Common.{[], ◌∷◌, refl, ◌∙◌, arith}
use Rattle.model.specs.Plan.{decode, is_plan}
use Rattle.model.proofs.PlanForm.{is_plan-lent}
use Rattle.model.proofs.Fillings.{seven-in-one}
use Rattle.marked_sums.proofs.Plans.{first, gapped, drains}
use Rattle.marked_sums.proofs.seven_in_one.Goals as goal

pub hold-plan-requires : goal.hold-plan-requires
unfolding decode is_plan
hold-plan-requires c = (record { vehicles = omega arith; stops = omega arith }, is_plan-lent 1 7 _ refl refl)

pub count-requires : goal.count-requires
unfolding decode
count-requires c =
    let h = c.hold-plan.ensures in
    (gapped 1 7 _ _ h _ (omega arith) refl refl, omega (arith, drains 1 7 _ c.hold-plan.result h (first 7 ∷ []) 7 refl))

pub returns : goal.returns
unfolding decode
returns c =
    let e = seven-in-one _ _ refl (drains 1 7 _ c.hold-plan.result c.hold-plan.ensures (first 7 ∷ []) 7 refl) in
    (c.count.ensures.begun_value ∙ e.0, c.count.ensures.completed_value ∙ e.1)
