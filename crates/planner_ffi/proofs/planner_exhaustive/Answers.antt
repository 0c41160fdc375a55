use Rattle.model.specs.Refusals.{Exhaustive}
use Rattle.planner_ffi.proofs.Handed.{hands-cost}
use Rattle.planner_ffi.proofs.planner_exhaustive.Goals as goal

pub returns : goal.returns
returns c = rw (← c.job_of-job.ensures) (hands-cost Exhaustive _ _ _ c.exhaustive-answer.ensures _ _ _ c.hand.ensures.number c.hand.ensures.value)
