use Prim.Native.Nat.{ℕ, ◌+◌}
use mathlib.Core.List.{List}
use mathlib.Core.Path.{◌≡◌, sym, ◌∙◌}
use lib.ListN.{length, set, length-set, length-take}
use lib.Seq.{length-take-le}
use Rattle.pasting.proofs.Put.{lent-long, rest-long}
use Rattle.solution.specs.Held.{numbers_of}
use Rattle.joining.proofs.Routes.{RoomTwo, room-two, form-two}
use native.Mathlib.Omega.{arith}
use Rattle.joining.proofs.replace_in_order.Goals as goal
use Rattle.joining.proofs.replace_in_order.Goals.{After-slice_known-2-1, Start}

-- the room that the new routes have
its-room : (s : Start) → let a = s.args in
    RoomTwo a.old.now.v a.old.now.n (numbers_of a.old.now) a.old.now.lent a.a a.b a.first.now a.second.now s.requires.a_lt_b.0 s.requires.a_lt_b.1
its-room s =
    let a = s.args in
    room-two a.old.now.v a.old.now.n (numbers_of a.old.now) a.old.now.lent a.a a.b a.first.now a.second.now s.requires.a_lt_b.0 s.requires.a_lt_b.1 s.requires.bound

-- the new plan with its lengths
abbrev new : After-slice_known-2-1 → List ℕ
new c =
    set (set c.paste.new.to c.args.a (length c.args.first.now)) c.args.b (length c.args.second.now)

-- it is as long as it was
long : (c : After-slice_known-2-1) → length (new c) ≡ c.args.old.now.v + c.args.old.now.n
long c = simp length-set (omega arith)

pub slice_bounds-paste-end : goal.slice_bounds-paste-end
slice_bounds-paste-end c =
    let p = c.args.old.now in
    let long : length c.form.result.now ≡ p.v + p.n = rw c.form.ensures p.lent.long in
    sym (length-take-le p.v c.form.result.now (omega (arith, long)))

pub paste-requires : goal.paste-requires
paste-requires c = let a = c.args in omega (arith, length-take a.old.now.v c.form.result.now)

pub overflow_cast-new : goal.overflow_cast-new
overflow_cast-new c = omega (arith, its-room (goal.at.overflow_cast-new c).Start)

pub overflow_cast-new-2 : goal.overflow_cast-new-2
overflow_cast-new-2 c = omega (arith, its-room (goal.at.overflow_cast-new-2 c).Start)

pub bounds-new-b : goal.bounds-new-b
bounds-new-b c = rw length-set (omega arith)

pub slice_bounds-write_stops_two-count : goal.slice_bounds-write_stops_two-count
slice_bounds-write_stops_two-count c = omega (arith, long (goal.at.slice_bounds-write_stops_two-count c).After-slice_known-2-1)

pub slice_bounds-write_stops_two-start : goal.slice_bounds-write_stops_two-start
slice_bounds-write_stops_two-start c = omega (arith, long (goal.at.slice_bounds-write_stops_two-start c).After-slice_known-2-1)

pub write_stops_two-requires : goal.write_stops_two-requires
write_stops_two-requires c =
    record { area_len = rest-long c.args.old.now.v c.args.old.now.n (new (goal.at.write_stops_two-requires c).After-slice_known-2-1) (long (goal.at.write_stops_two-requires c).After-slice_known-2-1); a_lt_b = c.requires.a_lt_b; bound = c.requires.bound }

pub shape_of-new : goal.shape_of-new
shape_of-new c =
    lent-long c.args.old.now.v (new (goal.at.shape_of-new c).After-slice_known-2-1) c.write_stops_two.new.area (omega (arith, long (goal.at.shape_of-new c).After-slice_known-2-1)) c.write_stops_two.auto.area
    ∙ (long (goal.at.shape_of-new c).After-slice_known-2-1 ∙ sym c.requires.len)

pub returns : goal.returns
returns c =
    let a = c.args in
    form-two a.old.now.v a.old.now.n (numbers_of a.old.now) a.old.now.lent a.a a.b a.first.now a.second.now c.requires.a_lt_b.0 c.requires.a_lt_b.1 a.new.now
    c.paste.new.to c.write_stops_two.new.area c.requires.len (rw c.form.ensures at c.paste.ensures.to_after)
    c.write_stops_two.ensures
