-- By the outcomes of the tests.
use mathlib.Core.Path.{sym, ◌∙◌}
use mathlib.Core.Bool.{true, false}
use Rattle.arrival.proofs.Choice.{better-none, better-some}
use Rattle.arrival.proofs.better.Goals as goal
use Rattle.arrival.proofs.better.Goals.{in-None, in-Some}

pub returns-then-replaces : goal.returns-then-replaces
returns-then-replaces c =
    let a = c.args in
    elim c.match-best.branch [
      | in-None w ↦ (c.requires.0, better-none a.new a.best c.requires.0 c.requires.1 true w.in-None.is (sym w.replaces-is ∙ c.if-replaces.true))
      | in-Some w ↦ (c.requires.0, better-some a.new a.best c.requires.0 c.requires.1 true _ w.in-Some.is (sym w.replaces-is ∙ c.if-replaces.true))
    ]

pub returns-else-replaces : goal.returns-else-replaces
returns-else-replaces c =
    let a = c.args in
    elim c.match-best.branch [
      | in-None w ↦ (c.requires.1, better-none a.new a.best c.requires.0 c.requires.1 false w.in-None.is (sym w.replaces-is ∙ c.if-replaces.false))
      | in-Some w ↦ (c.requires.1, better-some a.new a.best c.requires.0 c.requires.1 false _ w.in-Some.is (sym w.replaces-is ∙ c.if-replaces.false))
    ]
