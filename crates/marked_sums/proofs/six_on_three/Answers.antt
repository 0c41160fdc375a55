use Rattle.std.proofs.Common.{[], ◌∷◌, refl, ◌∙◌, arith}
use Rattle.model.specs.Plan.{decode, is_plan}
use Rattle.model.proofs.PlanForm.{is_plan-lent}
use Rattle.marked_sums.proofs.Plans.{first, later, gapped, drains, six-in-three}
use Rattle.marked_sums.proofs.six_on_three.Goals as goal

pub hold-plan-requires : goal.hold-plan-requires
unfolding decode is_plan
hold-plan-requires c = (record { vehicles = omega arith; stops = omega arith }, is_plan-lent 3 6 _ refl refl)

pub count-requires : goal.count-requires
unfolding decode
count-requires c =
    let h = c.hold-plan.ensures in
    (gapped 3 6 _ _ h _ (omega arith) refl refl, omega (arith, drains 3 6 _ c.hold-plan.result h (first 6 ∷ later 1 ∷ later 2 ∷ []) 6 refl))

pub returns : goal.returns
unfolding decode
returns c =
    let e = six-in-three _ _ refl (drains 3 6 _ c.hold-plan.result c.hold-plan.ensures (first 6 ∷ later 1 ∷ later 2 ∷ []) 6 refl) in
    (c.count.ensures.begun_value ∙ e.0, c.count.ensures.completed_value ∙ e.1)
