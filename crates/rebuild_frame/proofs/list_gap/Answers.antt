use Prim.Native.Nat.{ℕ, ◌+◌, ◌*◌, ◌^◌, ◌<◌}
use native.Mathlib.Omega.{arith}
use Rattle.rebuild_frame.proofs.Listing.{opened-fits, listing_none, listing-room, listing-fits, listing-more, listed}
use Rattle.rebuild_frame.proofs.list_gap.Goals as goal
use Rattle.rebuild_frame.proofs.list_gap.Goals.{In-loop-stop, Start}

-- what is asked of the gap, and the turn of a stop
abbrev count : Start → ℕ
count s = s.args.before.count

abbrev word : Start → ℕ
word s = s.args.before.word

fits : (s : Start) → (word s) * 16 + 8 + s.args.q < 16 ^ 10
fits s = opened-fits s.args.stops.now s.args.part.now s.args.q (count s) (word s) s.requires

room : (c : In-loop-stop) → c.loop-stop.count < 7
room c =
    let l = c.loop-stop in
    listing-room c.args.stops.now c.args.part.now c.args.q (count (goal.at.In-loop-stop c).Start) (word (goal.at.In-loop-stop c).Start) c.requires l.stop-index l.stops l.count l.word l.invariant (omega arith)

more-fits : (c : In-loop-stop) → c.loop-stop.word * 16 + (c.loop-stop.count + 1) < 16 ^ 10
more-fits c =
    let l = c.loop-stop in
    listing-fits c.args.stops.now c.args.part.now c.args.q (count (goal.at.In-loop-stop c).Start) (word (goal.at.In-loop-stop c).Start) c.requires l.stop-index l.stops l.count l.word l.invariant (omega arith)

pub overflow_mul-word : goal.overflow_mul-word
overflow_mul-word c = omega (arith, fits (goal.at.overflow_mul-word c).Start)

pub overflow_add-word : goal.overflow_add-word
overflow_add-word c = omega (arith, fits (goal.at.overflow_add-word c).Start)

pub overflow_add-word-2 : goal.overflow_add-word-2
overflow_add-word-2 c = omega (arith, fits (goal.at.overflow_add-word-2 c).Start)

pub loop-stop-init : goal.loop-stop-init
loop-stop-init c =
    listing_none c.args.stops.now c.args.part.now c.args.q (count (goal.at.loop-stop-init c).Start) (word (goal.at.loop-stop-init c).Start) c.requires

pub overflow_add-count : goal.overflow_add-count
overflow_add-count c = omega (arith, room (goal.at.overflow_add-count c).In-loop-stop)

pub offset_bounds-stops-count : goal.offset_bounds-stops-count
offset_bounds-stops-count c = omega (arith, room (goal.at.offset_bounds-stops-count c).In-loop-stop)

pub bounds-stops-count : goal.bounds-stops-count
bounds-stops-count c = omega (arith, room (goal.at.bounds-stops-count c).In-loop-stop)

pub overflow_mul-word-in-loop-stop : goal.overflow_mul-word-in-loop-stop
overflow_mul-word-in-loop-stop c = omega (arith, more-fits (goal.at.overflow_mul-word-in-loop-stop c).In-loop-stop)

pub overflow_add-word-in-loop-stop : goal.overflow_add-word-in-loop-stop
overflow_add-word-in-loop-stop c = omega (arith, more-fits (goal.at.overflow_add-word-in-loop-stop c).In-loop-stop)

pub loop-stop-preserved : goal.loop-stop-preserved
loop-stop-preserved c =
    let l = c.loop-stop in
    listing-more c.args.stops.now c.args.part.now c.args.q (count (goal.at.loop-stop-preserved c).Start) (word (goal.at.loop-stop-preserved c).Start) c.requires l.stop-index l.stops l.count l.word l.invariant (omega arith)

pub returns : goal.returns
returns c =
    let l = c.loop-stop in
    listed c.args.stops.now c.args.part.now c.args.q (count (goal.at.returns c).Start) (word (goal.at.returns c).Start) c.requires l.stop-index l.stops l.count l.word l.invariant (omega arith)
