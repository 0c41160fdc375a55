use Rattle.planner_ffi.proofs.Handed.{hands-run}
use Rattle.planner_ffi.proofs.planner_solve.Goals as goal

pub returns : goal.returns
returns c =
    rw (← c.job_of-job.ensures) (hands-run _ _ _ c.solve-answer.ensures _ _ _ c.hand_totals.ensures.number c.hand_totals.ensures.settled_after)
