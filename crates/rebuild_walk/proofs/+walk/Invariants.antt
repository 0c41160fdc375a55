use Rattle.std.proofs.Common.{◌+◌, ◌-◌, length}
use Rattle.rebuild_tables.specs.Frame.{gap_count}
use Rattle.model.specs.StopSet.{stops_of}
use Rattle.rebuild_tables.proofs.Steps.{Looping}
use Rattle.rebuild_walk.proofs.+walk.Given as goal

abbrev pub invariant-loop-next : goal.invariant-loop-next
invariant-loop-next l =
    Looping l.ways l.frame l.q l.left l.word l.initial.kept l.kept l.found l.next

abbrev pub decreases-loop-next : goal.decreases-loop-next
decreases-loop-next l =
    length (stops_of l.next)

-- the gaps and the stops that are left
abbrev pub decreases-walk : goal.decreases-walk
decreases-walk l = gap_count l.frame.now - l.q + length (stops_of l.left)
