-- The invariant: the sum and the way from here on are the whole way.
use Prim.Native.Nat.{◌+◌, ◌*◌, ◌≤◌, ◌<◌}
use mathlib.Core.Path.{◌≡◌}
use lib.ListN.{drop}
use Rattle.distance.specs.Ways.{table_legs}
use Rattle.distance.proofs.legs.Legs.route_length.Given as goal

abbrev pub invariant-loop-stop : goal.invariant-loop-stop
invariant-loop-stop l =
    (l.sum ≤ 200000 * l.stop-index)
    × (l.here < 80)
    × (l.sum + table_legs l.self.table l.here (drop l.stop-index l.route) (64 + l.vehicle) ≡ table_legs l.self.table (64 + l.vehicle) l.route (64 + l.vehicle))
