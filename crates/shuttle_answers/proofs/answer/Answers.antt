use Rattle.std.proofs.Common.{rules}
use Rattle.shuttle_answers.proofs.Laws.{file-answers, no-file-answers}
use Rattle.shuttle_answers.proofs.answer.Goals as goal

pub returns-in_default : goal.returns-in_default
returns-in_default c =
    no-file-answers _ _ c.read_file.ensures.read _ c.in_default.is _ _ _ (search rules) (rw c.from.ensures at c.print_refusal.ensures)

pub returns : goal.returns
returns c =
    file-answers _ _ c.read_file.ensures.read _ c.in-Ok.is _ _ _ (search rules) c.run.ensures
