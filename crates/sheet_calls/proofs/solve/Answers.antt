use Rattle.std.proofs.Common.{sym, ◌∙◌, rules}
use Rattle.planner.proofs.Ran.{ran-priced}
use Rattle.sheet_lines.proofs.Shown.{shown-solved}
use Rattle.sheet_calls.proofs.solve.Goals as goal

pub print_answer-requires : goal.print_answer-requires
print_answer-requires c =
    record { printable = search rules; exactly = λ t e. ran-priced _ t (sym e ∙ c.solve-answer.ensures.answer) }

pub returns : goal.returns
returns c =
    let f = c.solve-answer.ensures in
    record { prints = shown-solved _ _ _ _ _ _ f.answer c.print_answer.ensures; plan_after = f.plan }
