use Prim.Native.Nat.{◌+◌, ◌<◌}
use native.Mathlib.Omega.{arith}
use lib.ListN.{length}
use Rattle.distance.proofs.Table.{row-begins, row_more, between-small, legs-set}
use Rattle.distance.proofs.fill_row.Goals as goal
use Rattle.distance.proofs.fill_row.Goals.{At-loop-i}

-- the row's cells are inside the table
room : (t : At-loop-i) → t.loop-i.i < 80 → t.args.first + t.loop-i.i < length t.loop-i.legs.table
room t h = omega (arith, t.loop-i.legs.lengths.long, t.requires.1)

pub loop-i-init : goal.loop-i-init
loop-i-init c = row-begins _ _ _ _ _ _

pub metres-metres-requires : goal.metres-metres-requires
metres-metres-requires c = c.requires.0.table

pub invariant_of-legs : goal.invariant_of-legs
invariant_of-legs c =
    let a = c.args in
    record { lengths = legs-set c.loop-i.legs.table (a.first + c.loop-i.i) c.metres-metres.result c.loop-i.legs.lengths (rw c.metres-metres.ensures (between-small _ _ _ _ c.requires.0.short)) }

pub loop-i-preserved : goal.loop-i-preserved
loop-i-preserved c =
    let a = c.args in
    row_more a.network.now.distances.now a.network.now.locations a.from a.ends.now a.first c.loop-i.i a.legs.now.table c.loop-i.legs.table c.metres-metres.result
    c.loop-i.invariant (room (goal.at.loop-i-preserved c).At-loop-i c.loop-i-test.true) c.metres-metres.ensures

pub returns : goal.returns
returns c =
    let r = c.loop-i.invariant in
    record { long = r.long; kept = r.kept; row = λ k h. r.row k (omega arith) }
