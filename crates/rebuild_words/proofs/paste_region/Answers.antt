-- The stops before the region, those of the word, and the stops after the region.
use mathlib.Core.Path.{sym, ap}
use Prim.Native.Nat.{◌+◌, ◌≤◌}
use native.Mathlib.Omega.{arith}
use lib.ListN.{length, take, drop}
use lib.Seq.{length-take-le}
use Rattle.model.proofs.Lists.{part_end}
use Rattle.rebuild_words.specs.Words.{in_gap}
use Rattle.rebuild_words.proofs.Gaps.{parts-room, parts-pasted}
use Rattle.rebuild_words.proofs.paste_region.Goals as goal
use Rattle.rebuild_words.proofs.paste_region.Goals.{Start}

room : (c : Start) → let a = c.args in
    a.at + length (take a.region.from a.route.now) + length (in_gap a.gap a.word.now) + length (drop a.region.to a.route.now) ≤ length a.to.now
room c = let a = c.args in parts-room a.to.now a.at (in_gap a.gap a.word.now) a.route.now a.region c.requires.route_in_bounds

pub slice_bounds-paste-end : goal.slice_bounds-paste-end
slice_bounds-paste-end c = sym (length-take-le _ c.args.route.now (omega (arith, c.requires.within)))

pub paste-a-requires : goal.paste-a-requires
paste-a-requires c = omega (arith, room (goal.at.paste-a-requires c).Start)

pub paste_gap-b-requires : goal.paste_gap-b-requires
paste_gap-b-requires c = let p = c.paste-a in omega (arith, p.ensures.value, p.auto.to, room (goal.at.paste_gap-b-requires c).Start)

pub paste-requires : goal.paste-requires
paste-requires c =
    let p = c.paste-a in
    let q = c.paste_gap-b in
    omega (arith, p.ensures.value, p.auto.to, q.ensures.ends, q.auto.to, ap length (part_end c.args.region.to c.args.route.now), room (goal.at.paste-requires c).Start)

pub returns : goal.returns
returns c =
    let a = c.args in
    let p = c.paste-a in
    let q = c.paste_gap-b in
    let z = c.paste in
    parts-pasted a.to.now a.at (in_gap a.gap a.word.now) a.route.now a.region (omega (arith, c.requires.route_in_bounds))
    p.new.to q.new.to z.new.to _ p.result q.result z.result p.ensures.value p.ensures.to_after q.ensures
    (part_end a.region.to a.route.now) z.ensures.value z.ensures.to_after
