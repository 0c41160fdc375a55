use mathlib.Core.Path.{◌≡◌}
use mathlib.Core.Bool.{◌&&◌}
use lib.ListN.{drop}
use Rattle.model.specs.Lists.{all_below, all_once}
use Rattle.plan_form.proofs.Seen.{good}
use Rattle.plan_form.proofs.stops_once.Given as goal

abbrev pub invariant-loop-stop : goal.invariant-loop-stop
invariant-loop-stop l = (all_below l.n l.part && all_once l.part) ≡ good l.n l.seen (drop l.stop-index l.part)
