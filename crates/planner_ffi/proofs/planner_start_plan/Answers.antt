use Rattle.planner_ffi.proofs.Handed.{hands-plan}
use Rattle.planner_ffi.proofs.planner_start_plan.Goals as goal

pub returns : goal.returns
returns c = hands-plan _ _ _ c.start_plan-answer.ensures _ c.hand.ensures.number
