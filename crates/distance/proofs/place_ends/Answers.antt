use mathlib.Core.Path.{◌∙◌}
use native.Mathlib.Omega.{arith}
use lib.ListN.{length-set}
use Rattle.model.specs.Job.{priced}
use Rattle.distance.specs.Table.{end_at}
use Rattle.distance.proofs.Table.{filled_more}
use Rattle.distance.proofs.place_ends.Goals as goal

pub loop-i-init : goal.loop-i-init
loop-i-init c = (c.requires.2, λ p k h. absurd (omega arith))

pub location_of-requires : goal.location_of-requires
location_of-requires c = (c.requires.0, c.requires.1)

pub loop-i-preserved : goal.loop-i-preserved
loop-i-preserved c =
    let v = c.loop-i.invariant in (
      length-set c.loop-i.ends c.loop-i.i c.location_of.result ∙ v.0,
      λ p.
          filled_more (end_at (priced c.args.network.now p)) c.loop-i.ends c.loop-i.i c.location_of.result (omega arith) (v.1 p) (c.location_of.ensures p),
    )

pub returns : goal.returns
returns c p k h = c.loop-i.invariant.1 p k (omega arith)
