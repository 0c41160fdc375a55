use Prim.Native.Nat.{◌<◌}
use lib.ListN.{length}
use native.Mathlib.Omega.{arith}
use Rattle.rebuild_words.proofs.Gaps.{passed_none, passed-room, passed_here, passed-other, passed-all}
use Rattle.rebuild_words.proofs.paste_gap.Goals as goal
use Rattle.rebuild_words.proofs.paste_gap.Goals.{Then-c-gap, then-c-gap, else-c-gap}

-- there is room for a stop of the gap
room : (c : Then-c-gap) → c.loop-c.end < length c.loop-c.to
room c =
    let l = c.loop-c in
    let a = c.args in
    passed-room a.to.now a.at a.word.now a.gap l.c-index l.to l.end l.invariant (omega arith) c.if-c-gap.true c.requires

pub loop-c-init : goal.loop-c-init
loop-c-init c = passed_none c.args.to.now c.args.at c.args.word.now c.args.gap

pub offset_bounds-to-end : goal.offset_bounds-to-end
offset_bounds-to-end c = omega (arith, room (goal.at.offset_bounds-to-end c).Then-c-gap)

pub bounds-to-end : goal.bounds-to-end
bounds-to-end c = room (goal.at.bounds-to-end c).Then-c-gap

pub overflow_add-end : goal.overflow_add-end
overflow_add-end c = omega (arith, room (goal.at.overflow_add-end c).Then-c-gap)

pub loop-c-preserved : goal.loop-c-preserved
loop-c-preserved c =
    let l = c.loop-c in
    let a = c.args in
    elim c.if-c-gap.branch [
      | then-c-gap j ↦ passed_here a.to.now a.at a.word.now a.gap l.c-index l.to l.end l.invariant (omega arith) j.if-c-gap.true
          c.requires c.if-c-gap.to c.if-c-gap.end j.to-is j.end-is
      | else-c-gap j ↦ passed-other a.to.now a.at a.word.now a.gap l.c-index l.to l.end l.invariant (omega arith) j.if-c-gap.false
          c.if-c-gap.to c.if-c-gap.end j.to-is j.end-is
    ]

pub returns : goal.returns
returns c =
    let l = c.loop-c in
    let a = c.args in
    passed-all a.to.now a.at a.word.now a.gap l.c-index l.to l.end l.invariant (omega arith)
