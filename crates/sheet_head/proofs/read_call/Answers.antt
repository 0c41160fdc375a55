use mathlib.Core.Path.{ap}
use mathlib.Core.Bool.{not}
use Rattle.file_lines.proofs.Checks.{said, denied}
use Rattle.sheet_head.proofs.Heads.{no_call, call-read}
use Rattle.sheet_head.proofs.read_call.Goals as goal

pub returns-then-not-check_line : goal.returns-then-not-check_line
returns-then-not-check_line c = let k = c.check_line in
    no_call _ _ (denied k.result (ap not c.if-not-check_line.true) k.ensures)

pub returns : goal.returns
returns c = let k = c.check_line in
    rw c.ok.ensures.value (call-read _ _ _ c.number_at.ensures (said k.result (ap not c.if-not-check_line.false) k.ensures) _ c.try_from.ensures)
