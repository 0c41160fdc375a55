use mathlib.Core.Path.{◌≡◌}
use Rattle.ruin_and_recreate.proofs.Whole.{Within}
use Rattle.ruin_and_recreate.proofs.rounds.Given as goal

abbrev pub invariant-loop-done : goal.invariant-loop-done
invariant-loop-done l = Within l.tariff l.settings l.initial.plan l.plan l.p × (l.p.rounds ≡ l._done)
