use mathlib.Core.Path.{refl}
use borrow.Author.Rules.{rules}
use Rattle.model.specs.Refusals.{Exhaustive}
use Rattle.sheet_lines.proofs.Exact.{exactly}
use Rattle.sheet_lines.proofs.Shown.{shown-weighed}
use Rattle.sheet_calls.proofs.exhaustive.Goals as goal

pub print_answer-requires : goal.print_answer-requires
print_answer-requires c = record { printable = search rules; exactly = exactly Exhaustive _ _ refl c.exhaustive-answer.ensures.answer }

pub returns : goal.returns
returns c =
    let f = c.exhaustive-answer.ensures in
    record { prints = shown-weighed _ _ _ _ _ _ f.answer c.print_answer.ensures; plan_after = f.plan }
