use Rattle.shuttle_answers.proofs.Laws.{answers-printed}
use Rattle.shuttle_answers.proofs.print_answer.Goals as goal

pub returns : goal.returns
returns g c = answers-printed _ _ _ _ c.answer-m.ensures
