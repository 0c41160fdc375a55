use Rattle.planner_ffi.proofs.Handed.{hands-view}
use Rattle.planner_ffi.proofs.planner_view.Goals as goal

pub returns : goal.returns
returns c =
    let h = c.hand.ensures in
    hands-view _ _ _ c.view-answer.ensures _ _ _ h.number h.value
