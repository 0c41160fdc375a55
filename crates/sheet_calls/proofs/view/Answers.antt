use Rattle.sheet_lines.proofs.Shown.{shown-viewed}
use Rattle.sheet_calls.proofs.view.Goals as goal

pub returns : goal.returns
returns c =
    let f = c.view-answer.ensures in
    record { prints = shown-viewed _ _ _ _ _ _ f.answer c.print_answer.ensures; seen_after = f.list }
