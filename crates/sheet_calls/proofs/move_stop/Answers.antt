use Rattle.sheet_lines.proofs.Shown.{shown-moved}
use Rattle.sheet_calls.proofs.move_stop.Goals as goal

pub returns : goal.returns
returns c =
    let f = c.move_stop-answer.ensures in
    record { prints = shown-moved _ _ _ _ _ _ f.answer c.print_answer.ensures; plan_after = f.plan }
