use mathlib.Core.Path.{refl, sym, ap, ◌∙◌}
use native.Mathlib.Omega.{arith}
use lib.ListN.{length}
use Rattle.solution.specs.Held.{routes}
use Rattle.rebuild_words.specs.Words.{plan_of}
use Rattle.rebuild_words.specs.Gaps.{no_region}
use Rattle.rebuild_words.proofs.Composed.{written_none, written-room, written-more, written_all, composed-wide, reads as turn}
use Rattle.rebuild_words.proofs.compose.Goals as goal
use Rattle.rebuild_words.proofs.compose.Goals.{in-Some, in-None}

pub loop-i-init : goal.loop-i-init
loop-i-init c = (omega arith, written_none c.args.plan.now.v c.args.plan.now.n _ c.args.to.now c.requires.to_len.0)

pub overflow_add-end : goal.overflow_add-end
overflow_add-end c =
    let l = c.loop-i in
    let t = turn c.args.plan.now _ c.form-form.ensures c.args.regions.now no_region c.args.word.now c.requires.gapped l.start l.i l.invariant.0 c.loop-i-test.true in
    omega (arith, t.ending, t.below)

pub offset_bounds-form-start : goal.offset_bounds-form-start
offset_bounds-form-start c =
    let l = c.loop-i in
    let t = turn c.args.plan.now _ c.form-form.ensures c.args.regions.now no_region c.args.word.now c.requires.gapped l.start l.i l.invariant.0 c.loop-i-test.true in
    omega (arith, t.ending, t.below)

pub slice_bounds-route-end : goal.slice_bounds-route-end
slice_bounds-route-end c =
    let l = c.loop-i in
    let t = turn c.args.plan.now _ c.form-form.ensures c.args.regions.now no_region c.args.word.now c.requires.gapped l.start l.i l.invariant.0 c.loop-i-test.true in
    omega (arith, t.ending)

pub paste_region-next-requires : goal.paste_region-next-requires
paste_region-next-requires c =
    let l = c.loop-i in
    let t = turn c.args.plan.now _ c.form-form.ensures c.args.regions.now no_region c.args.word.now c.requires.gapped l.start l.i l.invariant.0 c.loop-i-test.true in
    let r = sym c.region_of.ensures ∙ c.in-Some.is in
    let room = written-room c.args.plan.now.v c.args.plan.now.n (plan_of (routes c.args.plan.now) c.args.regions.now c.args.word.now) (composed-wide c.args.plan.now _ c.form-form.ensures c.args.regions.now no_region c.args.word.now c.requires.gapped) l.i l.at l.to l.invariant.1 c.requires.to_len.1 c.loop-i-test.true in
    record { within = (t.within c.in-Some.r r).1; route_in_bounds = omega (arith, ap length (t.refills c.in-Some.r r), room) }

pub paste-next-requires : goal.paste-next-requires
paste-next-requires c =
    let l = c.loop-i in
    let t = turn c.args.plan.now _ c.form-form.ensures c.args.regions.now no_region c.args.word.now c.requires.gapped l.start l.i l.invariant.0 c.loop-i-test.true in
    let room = written-room c.args.plan.now.v c.args.plan.now.n (plan_of (routes c.args.plan.now) c.args.regions.now c.args.word.now) (composed-wide c.args.plan.now _ c.form-form.ensures c.args.regions.now no_region c.args.word.now c.requires.gapped) l.i l.at l.to l.invariant.1 c.requires.to_len.1 c.loop-i-test.true in
    omega (arith, ap length (t.stays (sym c.region_of.ensures ∙ c.in-None.is)), room)

pub loop-i-preserved : goal.loop-i-preserved
loop-i-preserved c =
    let l = c.loop-i in
    let t = turn c.args.plan.now _ c.form-form.ensures c.args.regions.now no_region c.args.word.now c.requires.gapped l.start l.i l.invariant.0 c.loop-i-test.true in
    let j = c.match-region_of in (
      t.next,
      elim j.branch [
        | in-Some w ↦
            let q = w.paste_region-next in
            written-more c.args.plan.now.v c.args.plan.now.n (plan_of (routes c.args.plan.now) c.args.regions.now c.args.word.now) (composed-wide c.args.plan.now _ c.form-form.ensures c.args.regions.now no_region c.args.word.now c.requires.gapped) l.i l.at l.to l.invariant.1 c.requires.to_len.1 c.loop-i-test.true
            j.to _ _ j.next _ (t.refills w.in-Some.r (sym c.region_of.ensures ∙ w.in-Some.is)) (w.to-is ∙ q.ensures.holds) (w.next-is ∙ q.ensures.ends)
            (omega (arith, w.next-is, q.ensures.ends)) refl
        | in-None w ↦
            let q = w.paste-next in
            written-more c.args.plan.now.v c.args.plan.now.n (plan_of (routes c.args.plan.now) c.args.regions.now c.args.word.now) (composed-wide c.args.plan.now _ c.form-form.ensures c.args.regions.now no_region c.args.word.now c.requires.gapped) l.i l.at l.to l.invariant.1 c.requires.to_len.1 c.loop-i-test.true
            j.to _ _ j.next _ (t.stays (sym c.region_of.ensures ∙ w.in-None.is)) (w.to-is ∙ q.ensures.to_after) (w.next-is ∙ q.ensures.value)
            (omega (arith, w.next-is, q.ensures.value)) refl
      ],
    )

pub returns : goal.returns
returns c =
    let l = c.loop-i in
    written_all c.args.plan.now.v c.args.plan.now.n (plan_of (routes c.args.plan.now) c.args.regions.now c.args.word.now) (composed-wide c.args.plan.now _ c.form-form.ensures c.args.regions.now no_region c.args.word.now c.requires.gapped) l.i l.at l.to c.fill.new.to l.invariant.1 c.loop-i-test.false c.requires.to_len.1 c.fill.ensures
