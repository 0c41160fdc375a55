use Rattle.std.proofs.Common.{arith}
use Rattle.rebuild_ways.proofs.Filling.{row_more}
use Rattle.rebuild_ways.proofs.rows.fill_row.Goals as goal

pub loop-c-preserved : goal.loop-c-preserved
loop-c-preserved c =
    let a = c.args in
    row_more a.legs.now.table a.from a.ends.now a.row c.loop-c.c a.rows.now c.loop-c.rows c.leg.result c.loop-c.invariant c.requires.2 (omega arith)
    c.leg.ensures.0 c.leg.ensures.1
