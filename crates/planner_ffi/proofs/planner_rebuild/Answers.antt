use Rattle.planner_ffi.proofs.Handed.{hands-rebuilt}
use Rattle.planner_ffi.proofs.planner_rebuild.Goals as goal

pub returns : goal.returns
returns c =
    let h = c.hand_rebuilt.ensures in
    rw (← c.job_of-job.ensures) (hands-rebuilt _ _ _ c.rebuild-answer.ensures _ _ _ h.number h.completed_after)
