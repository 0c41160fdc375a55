use borrow.Author.Rules.{rules}
use Rattle.sheet_lines.proofs.Exact.{walked-exactly}
use Rattle.sheet_lines.proofs.Shown.{shown-rebuilt}
use Rattle.sheet_calls.proofs.rebuild.Goals as goal

pub print_answer-requires : goal.print_answer-requires
print_answer-requires c = record { printable = search rules; exactly = walked-exactly _ _ c.rebuild-answer.ensures.answer }

pub returns : goal.returns
returns c =
    let f = c.rebuild-answer.ensures in
    record { prints = shown-rebuilt _ _ _ _ _ _ f.answer c.print_answer.ensures; plan_after = f.plan }
