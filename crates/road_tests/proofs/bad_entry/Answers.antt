use mathlib.Core.Path.{ap}
use Prim.Native.Nat.{ℕ, ◌+◌}
use lib.Dec.{ltb}
use Rattle.model.specs.Roads.{bad_entry}
use Rattle.road_tests.proofs.Laws.{on-table}
use Rattle.road_tests.proofs.bad_entry.Goals as goal

pub lookup-metres-requires : goal.lookup-metres-requires
lookup-metres-requires c =
    let p = on-table _ _ c.requires.1 in
    (c.requires.0, p.0, p.1)

pub returns : goal.returns
unfolding bad_entry
returns c = ap (λ (d : ℕ). ltb 200000 (d + c.args.road.more)) c.lookup-metres.ensures
