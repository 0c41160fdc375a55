-- `settle::after_round`: each arm returns what the definition picks where `new < old` is as the arm's test found it.
use mathlib.Core.Bool.{true, false}
use mathlib.Core.Path.{ap, ap₂}
use lib.Ieee.{Float}
use Rattle.settle.specs.Rounds.{both}
use Rattle.settle.proofs.Laws.{rounded}
use Rattle.settle.proofs.after_round.Goals as goal

pub returns-then-new-old : goal.returns-then-new-old
returns-then-new-old c =
    let x = c.args in
    rounded x.smoothing x.a x.old x.new true _ c.if-new-old.true (ap₂ both c.average-delta.ensures c.average-update.ensures)

pub returns-else-new-old : goal.returns-else-new-old
returns-else-new-old c =
    let x = c.args in
    rounded x.smoothing x.a x.old x.new false _ c.if-new-old.false (ap (λ (z : Float). both z x.a.update) c.average-delta.ensures)
