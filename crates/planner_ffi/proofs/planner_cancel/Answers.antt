use Rattle.model.specs.Refusals.{Cancel}
use Rattle.planner_ffi.proofs.Handed.{hands-change}
use Rattle.planner_ffi.proofs.planner_cancel.Goals as goal

pub returns : goal.returns
returns c =
    let h = c.hand_change.ensures in
    rw (← c.job_of-job.ensures) (hands-change Cancel _ _ _ c.cancel-answer.ensures _ _ _ _ _ h.number h.after_after h.cost_after)
