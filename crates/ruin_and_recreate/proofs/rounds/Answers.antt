use mathlib.Core.Path.{refl, sym, ◌∙◌}
use native.Mathlib.Omega.{arith}
use Rattle.ruin_and_recreate.proofs.Whole.{begins, courses, cut, settled, goes_on}
use Rattle.ruin_and_recreate.proofs.rounds.Goals as goal

pub loop-done-init : goal.loop-done-init
loop-done-init c =
    let a = c.args in
    (begins a.tariff.now a.settings.now a.plan.now _ c.requires.started.0 c.requires.started.1 c.none.ensures refl refl refl, refl)

pub round-p-requires : goal.round-p-requires
round-p-requires c =
    let a = c.args in
    let i = c.loop-done.invariant in
    record {
      course = courses a.tariff.now a.settings.now a.plan.now _ _ _ c.requires.course i.0;
      standing = (i.0.stands, omega (arith, i.1, c.loop-done-test.true));
    }

pub returns-then-settled : goal.returns-then-settled
returns-then-settled c =
    let a = c.args in
    settled a.tariff.now a.settings.now a.plan.now _ _ _ _
    c.loop-done.invariant.0 c.round-p.ensures (omega arith) (sym c.settled.ensures ∙ c.if-settled.true)

pub loop-done-preserved : goal.loop-done-preserved
loop-done-preserved c =
    let a = c.args in (
      goes_on a.tariff.now a.settings.now a.plan.now _ _ _ _
          c.loop-done.invariant.0 c.round-p.ensures (omega arith) (sym c.settled.ensures ∙ c.if-settled.false),
      omega (arith, c.round-p.ensures.rounds),
    )

pub returns : goal.returns
returns c =
    let a = c.args in
    cut a.tariff.now a.settings.now a.plan.now _ _ c.loop-done.invariant.0 (omega arith)
