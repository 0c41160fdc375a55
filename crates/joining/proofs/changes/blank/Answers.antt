-- A plan of empty routes is lent, and stands in the front of the numbers.
use mathlib.Core.Path.{refl}
use Rattle.joining.proofs.Changed.{formed, held, blank-lent}
use Rattle.joining.proofs.changes.blank.Goals as goal

pub invariant_of-result : goal.invariant_of-result
invariant_of-result c =
    record { sizes = c.requires; lent = held c.args.v c.args.n _ _ _ c.empty.ensures (blank-lent c.args.v c.args.n) }

pub returns : goal.returns
returns c =
    record { vehicles = refl; stops = refl; form = formed c.args.v c.args.n _ _ _ c.empty.ensures (blank-lent c.args.v c.args.n) }
