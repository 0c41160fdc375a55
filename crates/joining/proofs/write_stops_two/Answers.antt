use mathlib.Core.Path.{refl}
use Rattle.model.specs.Plan.{Lent}
use Rattle.joining.proofs.Routes.{RoomTwo, room-two, enough-two, stops-two}
use native.Mathlib.Omega.{arith}
use Rattle.joining.proofs.write_stops_two.Goals as goal
use Rattle.joining.proofs.write_stops_two.Goals.{After-form-form}

lent : (s : After-form-form) → Lent s.args.old.now.v s.args.old.now.n s.form-form.result.now
lent s = rw s.form-form.ensures s.args.old.now.lent

-- the room that the new routes have
its-room : (s : After-form-form) → let a = s.args in
    RoomTwo a.old.now.v a.old.now.n s.form-form.result.now (lent s) a.a a.b a.first.now a.second.now s.requires.a_lt_b.0 s.requires.a_lt_b.1
its-room s =
    let a = s.args in
    room-two a.old.now.v a.old.now.n s.form-form.result.now (lent s) a.a a.b a.first.now a.second.now s.requires.a_lt_b.0 s.requires.a_lt_b.1
    (rw s.form-form.ensures s.requires.bound)

pub overflow_cast-end_a : goal.overflow_cast-end_a
overflow_cast-end_a c = omega (arith, its-room (goal.at.overflow_cast-end_a c).After-form-form)

pub overflow_add-end_a : goal.overflow_add-end_a
overflow_add-end_a c = omega (arith, its-room (goal.at.overflow_add-end_a c).After-form-form)

pub overflow_cast-end_b : goal.overflow_cast-end_b
overflow_cast-end_b c = omega (arith, its-room (goal.at.overflow_cast-end_b c).After-form-form)

pub overflow_add-end_b : goal.overflow_add-end_b
overflow_add-end_b c = omega (arith, its-room (goal.at.overflow_add-end_b c).After-form-form)

pub slice_bounds-write_around_two-end : goal.slice_bounds-write_around_two-end
slice_bounds-write_around_two-end c = omega (arith, its-room (goal.at.slice_bounds-write_around_two-end c).After-form-form, (lent (goal.at.slice_bounds-write_around_two-end c).After-form-form).long)

pub offset_bounds-form-end_a : goal.offset_bounds-form-end_a
offset_bounds-form-end_a c = omega (arith, its-room (goal.at.offset_bounds-form-end_a c).After-form-form)

pub slice_bounds-write_around_two-count-2 : goal.slice_bounds-write_around_two-count-2
slice_bounds-write_around_two-count-2 c = omega (arith, its-room (goal.at.slice_bounds-write_around_two-count-2 c).After-form-form)

pub slice_bounds-write_around_two-start-2 : goal.slice_bounds-write_around_two-start-2
slice_bounds-write_around_two-start-2 c = omega (arith, its-room (goal.at.slice_bounds-write_around_two-start-2 c).After-form-form)

pub slice_bounds-write_around_two-end-2 : goal.slice_bounds-write_around_two-end-2
slice_bounds-write_around_two-end-2 c = let l = lent (goal.at.slice_bounds-write_around_two-end-2 c).After-form-form in omega (arith, its-room (goal.at.slice_bounds-write_around_two-end-2 c).After-form-form, l.long, l.fits)

pub offset_bounds-form-end_b : goal.offset_bounds-form-end_b
offset_bounds-form-end_b c = omega (arith, its-room (goal.at.offset_bounds-form-end_b c).After-form-form)

pub slice_bounds-write_around_two-count-3 : goal.slice_bounds-write_around_two-count-3
slice_bounds-write_around_two-count-3 c = omega (arith, its-room (goal.at.slice_bounds-write_around_two-count-3 c).After-form-form)

pub slice_bounds-write_around_two-start-3 : goal.slice_bounds-write_around_two-start-3
slice_bounds-write_around_two-start-3 c = omega (arith, its-room (goal.at.slice_bounds-write_around_two-start-3 c).After-form-form)

pub write_around_two-requires : goal.write_around_two-requires
write_around_two-requires c =
    let a = c.args in
    rw c.requires.area_len (enough-two a.old.now.v a.old.now.n c.form-form.result.now (lent (goal.at.write_around_two-requires c).After-form-form) a.a a.b
    a.first.now a.second.now c.requires.a_lt_b.0 c.requires.a_lt_b.1 _ _ _ _ _ (its-room (goal.at.write_around_two-requires c).After-form-form)
    c.offset-start_a.ensures refl c.offset-start_b.ensures refl c.offset-used.ensures)

pub returns : goal.returns
returns c =
    let a = c.args in
    rw (
      c.requires.area_len,
      stops-two a.old.now.v a.old.now.n c.form-form.result.now (lent (goal.at.returns c).After-form-form) a.a a.b a.first.now a.second.now
          c.requires.a_lt_b.0 c.requires.a_lt_b.1 _ _ _ _ _ c.offset-start_a.ensures refl c.offset-start_b.ensures refl c.offset-used.ensures,
      c.form-form.ensures,
    ) at c.write_around_two.ensures
