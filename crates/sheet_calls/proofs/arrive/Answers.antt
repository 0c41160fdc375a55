use borrow.Author.Rules.{rules}
use Rattle.model.specs.Refusals.{Arrive}
use Rattle.sheet_lines.proofs.Exact.{arrival-stands}
use Rattle.sheet_lines.proofs.Shown.{shown-changed}
use Rattle.sheet_calls.proofs.Named.{as-given}
use Rattle.sheet_calls.proofs.arrive.Goals as goal

pub print_answer-requires : goal.print_answer-requires
print_answer-requires c = record { printable = search rules; exactly = arrival-stands _ _ _ _ _ c.arrive-answer.ensures.answer }

pub returns : goal.returns
returns c =
    let f = as-given Arrive _ _ _ c.args.given.now _ _ c.live_set-live.ensures c.arrive-answer.ensures in
    record { prints = shown-changed _ _ _ _ _ _ f.answer c.print_answer.ensures; plan_after = f.plan }
