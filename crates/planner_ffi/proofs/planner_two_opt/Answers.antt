use Rattle.model.specs.Refusals.{TwoOpt}
use Rattle.planner_ffi.proofs.Handed.{hands-cost}
use Rattle.planner_ffi.proofs.planner_two_opt.Goals as goal

pub returns : goal.returns
returns c = rw (← c.job_of-job.ensures) (hands-cost TwoOpt _ _ _ c.two_opt-answer.ensures _ _ _ c.hand.ensures.number c.hand.ensures.value)
