use mathlib.Core.Path.{sym}
use Rattle.std.proofs.Common.{rules}
use Rattle.two_opt_cuts.proofs.Laws.{walk_start, walk_more, walk-stop, walk-room, walk-over}
use Rattle.two_opt_cuts.proofs.ends_along.Goals as goal

pub loop-stop-init : goal.loop-stop-init
loop-stop-init g c =
    let a = c.args in
    let R = c.requires in
    rw c.into_iter-stop-iterator.ensures.into_iter_gives
    (R.next.0, R.next.1, λ xs m. walk_start g.I.Iterator.next_gives (λ s. s.now) a.legs.now.table a.a a.b xs m (c.empty.ensures a.legs.now.table, c.empty-2.ensures a.legs.now.table))

pub with_stop-ends-requires : goal.with_stop-ends-requires
with_stop-ends-requires g c =
    let R = c.requires in
    let xs = R.gives.0 in
    let W = c.loop-stop.invariant.2 xs (rw (sym c.into_iter-stop-iterator.ensures.into_iter_gives) at R.gives.1) in
    let h = c.in-Some.ensures.steps in (
      walk-room g.I.Iterator.next_gives (λ s. s.now) c.args.legs.now.table c.args.a c.args.b xs W h R.gives.2 c.args.legs.now.lengths R.ready.0 R.ready.1,
      walk-stop g.I.Iterator.next_gives (λ s. s.now) c.args.legs.now.table c.args.a c.args.b xs W h R.gives.2,
    )

pub loop-stop-preserved : goal.loop-stop-preserved
loop-stop-preserved g c =
    let on = c.in-Some.ensures.goes.on c.loop-stop.invariant.1 in (
      search rules,
      search rules,
      λ xs m. let W = c.loop-stop.invariant.2 xs m in
          walk_more g.I.Iterator.next_gives (λ s. s.now) c.args.legs.now.table c.args.a c.args.b xs W c.in-Some.ensures.steps (c.with_stop-ends.ensures c.args.a c.args.b _ W.ends),
    )

pub returns : goal.returns
returns g c =
    λ xs m. walk-over g.I.Iterator.next_gives (λ s. s.now) c.args.legs.now.table c.args.a c.args.b xs
    (c.loop-stop.invariant.2 xs (rw (sym c.into_iter-stop-iterator.ensures.into_iter_gives) at m)) c.in-None.ensures.steps
