use mathlib.Core.Path.{refl, ◌∙◌}
use lib.Ieee.{lt}
use Rattle.run_round.proofs.Steps.{number_of, improves-one}
use Rattle.run_round.proofs.improves.Goals as goal

pub returns : goal.returns
returns c =
    let improves = lt c.args.new c.args.old in
    let one = number_of improves in
    (rw c.from.ensures one.1, λ m k M K p q. c.from.ensures ∙ one.0 ∙ improves-one improves _ _ m k refl M K p q)
