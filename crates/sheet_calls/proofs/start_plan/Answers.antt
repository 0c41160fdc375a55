use Rattle.sheet_lines.proofs.Shown.{shown-start}
use Rattle.sheet_calls.proofs.start_plan.Goals as goal

pub returns : goal.returns
returns c =
    let f = c.start_plan-written.ensures in
    record { prints = shown-start _ _ _ _ _ _ f.answer c.print_answer.ensures; plan_after = f.plan }
