use Rattle.model.specs.Refusals.{Pruned}
use Rattle.planner_ffi.proofs.Handed.{hands-cost}
use Rattle.planner_ffi.proofs.planner_pruned.Goals as goal

pub returns : goal.returns
returns c = rw (← c.job_of-job.ensures) (hands-cost Pruned _ _ _ c.pruned-answer.ensures _ _ _ c.hand.ensures.number c.hand.ensures.value)
