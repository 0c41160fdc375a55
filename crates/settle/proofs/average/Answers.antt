-- `settle::average`: each arm returns what the definition picks where `old == 0.0` is as the arm's test found it.
use mathlib.Core.Path.{sym, ap, ◌∙◌}
use mathlib.Core.Bool.{true, false}
use lib.Ieee.{eq}
use Rattle.whole.proofs.Laws.{zero-whole}
use Rattle.settle.proofs.Laws.{weighed}
use Rattle.settle.proofs.average.Goals as goal

pub returns-then-old : goal.returns-then-old
returns-then-old c =
    let x = c.args in
    sym (weighed x.smoothing x.old x.new true (ap (eq x.old) (sym zero-whole) ∙ c.if-old.true))

pub returns-else-old : goal.returns-else-old
returns-else-old c =
    let x = c.args in
    sym (weighed x.smoothing x.old x.new false (ap (eq x.old) (sym zero-whole) ∙ c.if-old.false))
