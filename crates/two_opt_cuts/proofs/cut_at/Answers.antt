use native.Mathlib.Omega.{arith}
use Prim.Native.Nat.{◌+◌}
use mathlib.Core.Path.{ap, ◌∙◌}
use mathlib.Core.List.{reverse}
use lib.ListN.{take, drop}
use Rattle.std.proofs.Common.{rules}
use Rattle.std.specs.Slice.Iter.{iter_rest}
use Rattle.std.proofs.lemmas.Iterator.{YieldsList-from_slice}
use Rattle.std.proofs.lemmas.Iterator.Adapters.{YieldsList-from_rev_slice}
use Rattle.model.proofs.Lists.{part_end}
use Rattle.model.proofs.Counts.{below_at}
use Rattle.distance.proofs.Laws.{drivable-take, drivable-drop}
use Rattle.two_opt_cuts.specs.Ends.{EndsOf}
use Rattle.two_opt_cuts.proofs.Laws.{drivable-reverse, head-room, tail-room, head_more, tail_more}
use Rattle.two_opt_cuts.proofs.cut_at.Goals as goal
use Rattle.two_opt_cuts.proofs.cut_at.Goals.{After-ends_along-up, After-ends_along-down}

-- the head and the tail beside the stop
head : (c : After-ends_along-up) → let a = c.args in EndsOf a.legs.now.table a.a a.b (take a.i a.route.now) c.ends_along-up.result
head c = c.ends_along-up.ensures (take c.args.i c.args.route.now) (YieldsList-from_slice (take c.args.i c.args.route.now) c.iter.ensures.rest).runs

tail : (c : After-ends_along-down) → let a = c.args in EndsOf a.legs.now.table a.a a.b (reverse (drop (a.i + 1) a.route.now)) c.ends_along-down.result
tail c =
    let xs = drop (c.args.i + 1) c.args.route.now in
    c.ends_along-down.ensures (reverse xs)
    (YieldsList-from_rev_slice xs (ap iter_rest c.rev.ensures.source ∙ c.iter-2.ensures.rest ∙ part_end (c.args.i + 1) c.args.route.now)).runs

pub ends_along-up-requires : goal.ends_along-up-requires
ends_along-up-requires c κs =
    let a = c.args in
    let Q = c.requires in
    let xs = take a.i a.route.now in
    (search rules, ((Q.0, Q.1), ((tt, tt), (xs, (YieldsList-from_slice xs c.iter.ensures.rest).runs, drivable-take a.i a.route.now Q.2))))

pub ends_along-down-requires : goal.ends_along-down-requires
ends_along-down-requires c κs =
    let a = c.args in
    let Q = c.requires in
    let xs = drop (a.i + 1) a.route.now in
    let e = ap iter_rest c.rev.ensures.source ∙ c.iter-2.ensures.rest ∙ part_end (a.i + 1) a.route.now in
    (search rules, ((Q.0, Q.1), ((tt, tt), (reverse xs, (YieldsList-from_rev_slice xs e).runs, drivable-reverse xs (drivable-drop (a.i + 1) a.route.now Q.2)))))

pub with_stop-upto-requires : goal.with_stop-upto-requires
with_stop-upto-requires c =
    let a = c.args in (
      head-room a.legs.now.table a.a a.b a.route.now a.i a.legs.now.lengths c.requires.0 c.requires.1 c.requires.2 c.requires.3 (head (goal.at.with_stop-upto-requires c).After-ends_along-up),
      below_at 64 a.route.now a.i c.requires.2.stops c.requires.3,
    )

pub with_stop-from-requires : goal.with_stop-from-requires
with_stop-from-requires c =
    let a = c.args in (
      tail-room a.legs.now.table a.a a.b a.route.now (a.i + 1) a.legs.now.lengths c.requires.0 c.requires.1 c.requires.2 (omega arith) (omega arith)
          (tail (goal.at.with_stop-from-requires c).After-ends_along-down),
      below_at 64 a.route.now a.i c.requires.2.stops c.requires.3,
    )

pub returns : goal.returns
returns c =
    let a = c.args in
    let up = head (goal.at.returns c).After-ends_along-up in
    let down = tail (goal.at.returns c).After-ends_along-down in (
      record { head = up; tail = tail_more a.legs.now.table a.a a.b a.route.now a.i c.requires.3 (c.with_stop-from.ensures a.a a.b _ down) },
      record { head = head_more a.legs.now.table a.a a.b a.route.now a.i c.requires.3 (c.with_stop-upto.ensures a.a a.b _ up); tail = down },
    )
