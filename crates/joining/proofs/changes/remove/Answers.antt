-- The plan without the stop is lent again, and so stands in the front of the numbers.
use mathlib.Core.Path.{refl}
use Rattle.joining.proofs.Changed.{formed, held, there, gone, left}
use Rattle.joining.proofs.changes.remove.Goals as goal

pub take_out-requires-clause-k_lt_v : goal.take_out-requires-clause-k_lt_v
take_out-requires-clause-k_lt_v c =
    let p = c.args.plan.now in
    there p.v p.n _ p.lent c.args.stop c.args.place c.requires

pub invariant_of-plan : goal.invariant_of-plan
invariant_of-plan c =
    let p = c.args.plan.now in
    record {
      sizes = p.sizes;
      lent = held p.v p.n _ _ _ (gone p.v p.n _ p.lent c.args.stop c.args.place c.requires _ c.take_out.ensures) (left p.v p.n _ p.lent c.args.stop c.args.place c.requires);
    }

pub returns : goal.returns
returns c =
    let p = c.args.plan.now in
    record {
      vehicles = refl;
      stops = refl;
      form = formed p.v p.n _ _ _ (gone p.v p.n _ p.lent c.args.stop c.args.place c.requires _ c.take_out.ensures) (left p.v p.n _ p.lent c.args.stop c.args.place c.requires);
    }
