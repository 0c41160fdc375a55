use Rattle.planner_ffi.proofs.Handed.{hands-move}
use Rattle.planner_ffi.proofs.planner_move_stop.Goals as goal

pub returns : goal.returns
returns c =
    let h = c.hand.ensures in
    rw (← c.job_of-job.ensures) (hands-move _ _ _ c.move_stop-answer.ensures _ _ _ h.number h.value)
