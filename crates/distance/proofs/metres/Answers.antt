use mathlib.Core.Path.{sym, ◌∙◌}
use Rattle.distance.proofs.Table.{between-there, between-no-from, between-no-to}
use Rattle.distance.proofs.metres.Goals as goal
use Rattle.distance.proofs.metres.Goals.{then-from-network-via-then-from-network, then-from-network-via-else-from-network+then-to-network}

pub returns-then-from-network : goal.returns-then-from-network
returns-then-from-network c =
    let N = c.args.network.now in
    elim c.then-from-network.branch [
      | then-from-network-via-then-from-network w ↦ sym (between-no-from N.distances.now N.locations c.args.from c.args.to w.if-from-network.true)
      | then-from-network-via-else-from-network+then-to-network w ↦ sym (between-no-to N.distances.now N.locations c.args.from c.args.to w.if-from-network.false w.if-to-network.true)
    ]

pub returns : goal.returns
returns c =
    let N = c.args.network.now in
    c.lookup.ensures ∙ sym (between-there N.distances.now N.locations c.args.from c.args.to c.if-from-network.false c.if-to-network.false)
