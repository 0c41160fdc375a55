use mathlib.Core.Path.{ap, ◌∙◌}
use mathlib.Core.Bool.{not}
use Rattle.call_tests.proofs.Live.{lacking, holding}
use Rattle.call_tests.proofs.bad_live.Goals as goal
use Rattle.call_tests.proofs.bad_live.Goals.{then-inside, else-inside}

pub returns : goal.returns
returns c = elim c.if-inside.branch [
  | then-inside w ↦
      ap not w.result-is
      ∙ holding _ _ _ _ _ c.placed_set-placed.ensures _ c.inside.ensures w.if-inside.true _ c.below-all.ensures _ w.inside-then-inside.ensures
  | else-inside w ↦ ap not (w.result-is ∙ w.if-inside.false) ∙ lacking _ _ _ _ _ c.placed_set-placed.ensures _ c.inside.ensures w.if-inside.false
]
