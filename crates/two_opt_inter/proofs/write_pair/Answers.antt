use native.Mathlib.Omega.{arith}
use Prim.Native.Nat.{◌≤◌}
use lib.ListN.{length}
use Rattle.solution.specs.Held.{routes}
use Rattle.two_opt_candidates.specs.Pairs.{pair_of}
use Rattle.two_opt_inter.proofs.Rows.{Front, front, choice-cuts}
use Rattle.two_opt_inter.proofs.Plans.{new-few, new-lent, front-first, front-second, new-written}
use Rattle.two_opt_inter.proofs.write_pair.Goals as goal
use Rattle.two_opt_inter.proofs.write_pair.Goals.{After-choice_of-c, After-write_joined-p, After-write_joined-q}

-- the cuts are there
cuts : (c : After-choice_of-c) → (let a = c.args in (c.choice_of-c.result.first ≤ length a.ra.stops.now) × (c.choice_of-c.result.second ≤ length a.rb.stops.now))
cuts c =
    let k = choice-cuts c.args.code c.args.ra.at c.args.rb.at c.choice_of-c.result c.choice_of-c.ensures in
    (omega (arith, c.requires.1.first_at), omega (arith, c.requires.1.second_at))

-- the two new routes
new-first : (c : After-write_joined-p)
    → (let a = c.args in Front c.write_joined-p.new.row c.write_joined-p.result (pair_of a.ra.stops.now a.ra.at a.rb.stops.now a.rb.at a.code).0)
new-first c =
    let w = c.write_joined-p in
    let a = c.args in
    front-first w.new.row w.result a.ra.stops.now a.ra.at a.rb.stops.now a.rb.at a.code c.choice_of-c.ensures
    (front _ w.new.row _ w.result w.ensures.row_after w.ensures.value)

new-second : (c : After-write_joined-q)
    → (let a = c.args in Front c.write_joined-q.new.row c.write_joined-q.result (pair_of a.ra.stops.now a.ra.at a.rb.stops.now a.rb.at a.code).1)
new-second c =
    let w = c.write_joined-q in
    let a = c.args in
    front-second w.new.row w.result a.ra.stops.now a.ra.at a.rb.stops.now a.rb.at a.code c.choice_of-c.ensures
    (front _ w.new.row _ w.result w.ensures.row_after w.ensures.value)

pub choice_of-c-requires : goal.choice_of-c-requires
choice_of-c-requires c =
    let f = new-few c.requires.0 c.requires.1 in
    (omega (arith, c.requires.1.first_at), omega (arith, c.requires.1.second_at))

pub write_joined-p-requires : goal.write_joined-p-requires
write_joined-p-requires c =
    ((cuts (goal.at.write_joined-p-requires c).After-choice_of-c).0, (cuts (goal.at.write_joined-p-requires c).After-choice_of-c).1, new-few c.requires.0 c.requires.1)

pub write_joined-q-requires : goal.write_joined-q-requires
write_joined-q-requires c =
    ((cuts (goal.at.write_joined-q-requires c).After-choice_of-c).1, (cuts (goal.at.write_joined-q-requires c).After-choice_of-c).0, omega (arith, new-few c.requires.0 c.requires.1))

pub slice_bounds-x-end : goal.slice_bounds-x-end
slice_bounds-x-end c = (new-first (goal.at.slice_bounds-x-end c).After-write_joined-p).inside

pub slice_bounds-replace-end : goal.slice_bounds-replace-end
slice_bounds-replace-end c = (new-first (goal.at.slice_bounds-replace-end c).After-write_joined-p).size

pub slice_bounds-y-end : goal.slice_bounds-y-end
slice_bounds-y-end c = (new-second (goal.at.slice_bounds-y-end c).After-write_joined-q).inside

pub slice_bounds-replace-end-2 : goal.slice_bounds-replace-end-2
slice_bounds-replace-end-2 c = (new-second (goal.at.slice_bounds-replace-end-2 c).After-write_joined-q).size

pub replace-requires : goal.replace-requires
replace-requires c =
    let T = c.requires.0 in
    record {
      vehicles = (T.first, T.second, T.apart);
      lent = new-lent T c.requires.1 c.args.code _ _ (new-first (goal.at.replace-requires c).After-write_joined-p).is (new-second (goal.at.replace-requires c).After-write_joined-q).is;
    }

pub returns : goal.returns
returns c =
    let a = c.args in
    new-written _ _ a.a a.b (routes a.plan.now) c.replace.new.plan _ _ _ _ c.replace.ensures (new-first (goal.at.returns c).After-write_joined-p).is (new-second (goal.at.returns c).After-write_joined-q).is
