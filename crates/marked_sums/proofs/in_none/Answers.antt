use Rattle.std.proofs.Common.{refl, ◌∙◌, arith}
use Rattle.model.specs.Plan.{decode, is_plan}
use Rattle.model.proofs.PlanForm.{is_plan-lent}
use Rattle.model.proofs.Fillings.{none-counted}
use Rattle.marked_sums.proofs.in_none.Goals as goal

pub hold-plan-requires : goal.hold-plan-requires
unfolding decode is_plan
hold-plan-requires c = (record { vehicles = omega arith; stops = omega arith }, is_plan-lent 2 6 _ refl refl)

pub returns : goal.returns
returns c = let e = none-counted _ in (c.count.ensures.begun_value ∙ e.0, c.count.ensures.completed_value ∙ e.1)
