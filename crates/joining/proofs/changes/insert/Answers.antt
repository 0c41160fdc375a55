-- The plan with the stop put in is lent again, and so stands in the front of the numbers.
use mathlib.Core.Path.{refl}
use Rattle.joining.proofs.Changed.{formed, held, room, inserted}
use Rattle.joining.proofs.changes.insert.Goals as goal

pub put_in-requires-clause-k_lt_v : goal.put_in-requires-clause-k_lt_v
put_in-requires-clause-k_lt_v c =
    let p = c.args.plan.now in
    let r = c.requires in
    (r.place.0, r.place.1, room p.v p.n _ p.lent c.args.k c.args.i c.args.stop r.place.0 r.stop.0 r.stop.1)

pub invariant_of-plan : goal.invariant_of-plan
invariant_of-plan c =
    let p = c.args.plan.now in
    let r = c.requires in
    record { sizes = p.sizes; lent = held p.v p.n _ _ _ c.put_in.ensures (inserted p.v p.n _ p.lent c.args.k c.args.i c.args.stop r.place.0 r.stop.0 r.stop.1) }

pub returns : goal.returns
returns c =
    let p = c.args.plan.now in
    let r = c.requires in
    record {
      vehicles = refl;
      stops = refl;
      form = formed p.v p.n _ _ _ c.put_in.ensures (inserted p.v p.n _ p.lent c.args.k c.args.i c.args.stop r.place.0 r.stop.0 r.stop.1);
    }
