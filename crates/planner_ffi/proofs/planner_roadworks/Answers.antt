use Rattle.planner_ffi.proofs.Handed.{hands-rise}
use Rattle.planner_ffi.proofs.planner_roadworks.Goals as goal

pub returns : goal.returns
returns c =
    let h = c.hand.ensures in
    rw (← c.job_of-job.ensures) (hands-rise _ _ c.roadworks-answer.ensures _ _ _ h.number h.value)
