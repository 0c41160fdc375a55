use mathlib.Core.Path.{ap, sym, ◌∙◌}
use mathlib.Core.Bool.{not, true≢false}
use borrow.Author.Tests.{le-leb}
use Rattle.van_tests.proofs.Laws.{not-held, no-van, not_ours, by_place}
use Rattle.van_tests.proofs.bad_move.Goals as goal
use Rattle.van_tests.proofs.bad_move.Goals.{then-plan-k, else-plan-k, then-not-holds, else-not-holds}

pub returns-then-on_others_van : goal.returns-then-on_others_van
returns-then-on_others_van c =
    let yes = c.if-on_others_van.true in
    elim c.if-not-holds.branch [
      | then-not-holds w ↦ elim c.if-plan-k.branch [
        | then-plan-k x ↦ yes ∙ no-van _ _ _ _ c.requires x.if-plan-k.true
        | else-plan-k x ↦ yes ∙ not-held _ _ _ _ (x.value-is ∙ ap not x.holds.ensures) w.if-not-holds.true
      ]
      | else-not-holds w ↦ yes ∙ not_ours _ _ _ _ (w.value-is ∙ w.on_others_van.ensures) yes
    ]

pub returns-else-on_others_van : goal.returns-else-on_others_van
returns-else-on_others_van c =
    elim c.if-not-holds.branch [
      | then-not-holds w ↦ absurd (true≢false (sym w.if-not-holds.true ∙ sym w.value-is ∙ c.if-on_others_van.false))
      | else-not-holds w ↦ elim c.if-plan-k.branch [
        | then-plan-k x ↦ absurd (true≢false (sym (le-leb _ _ x.if-plan-k.true) ∙ sym x.value-is ∙ w.if-not-holds.false))
        | else-plan-k x ↦
            by_place _ _ _ _ (x.value-is ∙ ap not x.holds.ensures) w.if-not-holds.false _ (w.value-is ∙ w.on_others_van.ensures)
            c.if-on_others_van.false _ c.beyond_end.ensures
      ]
    ]
