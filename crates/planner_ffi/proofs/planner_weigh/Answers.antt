use Rattle.model.specs.Refusals.{Weigh}
use Rattle.planner_ffi.proofs.Handed.{hands-cost}
use Rattle.planner_ffi.proofs.planner_weigh.Goals as goal

pub returns : goal.returns
returns c = rw (← c.job_of-job.ensures) (hands-cost Weigh _ _ _ c.weigh-answer.ensures _ _ _ c.hand.ensures.number c.hand.ensures.value)
