use mathlib.Core.Path.{refl}
use borrow.Author.Rules.{rules}
use Rattle.model.specs.Refusals.{TwoOpt}
use Rattle.sheet_lines.proofs.Exact.{exactly}
use Rattle.sheet_lines.proofs.Shown.{shown-weighed}
use Rattle.sheet_calls.proofs.two_opt.Goals as goal

pub print_answer-requires : goal.print_answer-requires
print_answer-requires c = record { printable = search rules; exactly = exactly TwoOpt _ _ refl c.two_opt-answer.ensures.answer }

pub returns : goal.returns
returns c =
    let f = c.two_opt-answer.ensures in
    record { prints = shown-weighed _ _ _ _ _ _ f.answer c.print_answer.ensures; plan_after = f.plan }
