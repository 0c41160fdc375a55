use mathlib.Core.Path.{◌≡◌, sym, ap, ◌∙◌}
use Prim.Native.Nat.{◌+◌}
use native.Mathlib.Omega.{arith}
use lib.ListN.{length, get_or, take}
use lib.Seq.{drop_at, get_or-take}
use Rattle.model.specs.Plan.{route_of, encode, decode, Lent}
use Rattle.model.specs.Live.{placing}
use Rattle.model.proofs.PlanForm.{route-length}
use Rattle.joining.proofs.Changed.{formed, held, room, inserted, end-placing}
use Rattle.joining.proofs.put_last.Goals as goal
use Rattle.joining.proofs.put_last.Goals.{After-put_in, Start}

-- the number of a route is its length
size : (c : Start) → get_or c.args.numbers.now c.args.k 0 ≡ length (route_of (decode c.args.v (take (c.args.v + c.args.n) c.args.numbers.now)) c.args.k)
size c =
    let a = c.args in
    let l = c.requires.sizes.1 in
    sym (get_or-take (a.v + a.n) a.numbers.now a.k 0 (omega (arith, c.requires.place))) ∙ sym (route-length a.v a.n (take (a.v + a.n) a.numbers.now) l.long l.fits a.k c.requires.place)

pub put_in-requires-clause-k_lt_v : goal.put_in-requires-clause-k_lt_v
put_in-requires-clause-k_lt_v c =
    let a = c.args in
    let r = c.requires in (
      r.place,
      omega (arith, size (goal.at.put_in-requires-clause-k_lt_v c).Start),
      room a.v a.n _ r.sizes.1 a.k (get_or a.numbers.now a.k 0) a.stop r.place r.stop.0 r.stop.1,
    )

-- what is written can be lent
made : (c : After-put_in)
    → Lent c.args.v c.args.n (encode c.args.n (placing c.args.stop (decode c.args.v (take (c.args.v + c.args.n) c.args.numbers.now)) c.args.k (get_or c.args.numbers.now c.args.k 0)))
made c =
    let a = c.args in
    let r = c.requires in
    inserted a.v a.n _ r.sizes.1 a.k (get_or a.numbers.now a.k 0) a.stop r.place r.stop.0 r.stop.1

pub returns-clause-form : goal.returns-clause-form
returns-clause-form c =
    let a = c.args in
    formed a.v a.n _ _ _ c.put_in.ensures (made (goal.at.returns-clause-form c).After-put_in)
    ∙ ap (encode a.n) (end-placing _ a.k a.stop (decode a.v (take (a.v + a.n) a.numbers.now)) (size (goal.at.returns-clause-form c).Start))

pub returns-clause-lent : goal.returns-clause-lent
returns-clause-lent c =
    let a = c.args in
    held a.v a.n _ _ _ c.put_in.ensures (made (goal.at.returns-clause-lent c).After-put_in)

pub returns-clause-rest : goal.returns-clause-rest
returns-clause-rest c =
    let a = c.args in
    let l = made (goal.at.returns-clause-rest c).After-put_in in
    drop_at c.put_in.new.plan _ (a.v + a.n) (ap length c.put_in.ensures ∙ l.long)
