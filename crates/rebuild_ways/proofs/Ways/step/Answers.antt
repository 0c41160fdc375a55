-- The sum is exact.
use Rattle.rebuild_ways.proofs.Laws.{further}
use Rattle.rebuild_ways.proofs.Ways.step.Goals as goal

pub returns : goal.returns
returns c = further c.args.length c.cell.result _ c.requires.2 c.cell.ensures c.requires.3
