-- What is left is what the plan costs without the routes of the regions so far.
use Rattle.rebuild_arrange.proofs.Base.{Left}
use Rattle.rebuild_arrange.proofs.base_of.Given as goal

abbrev pub invariant-loop-region : goal.invariant-loop-region
invariant-loop-region l = Left l.tariff l.plan l.regions l.region-index l.rest
