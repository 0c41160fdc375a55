use Rattle.sheet_lines.proofs.Shown.{shown-raised}
use Rattle.sheet_calls.proofs.roadworks.Goals as goal

pub returns : goal.returns
returns c =
    shown-raised _ _ _ _ _ c.roadworks-answer.ensures.answer c.print_value.ensures
