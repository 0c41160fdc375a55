-- The whole walk: its first call, and what has come of it at the end.
use Prim.Native.Nat.{ℕ, suc, ◌+◌, ◌-◌, ◌≤◌, ◌<◌}
use native.Mathlib.Numerals.{add-one}
use native.Mathlib.Omega.{arith}
use mathlib.Core.Path.{◌≡◌, sym, ap, ap₂, ◌∙◌}
use mathlib.Core.List.{List, [], map}
use lib.Ieee.{Float}
use lib.ListN.{length}
use Rattle.model.specs.Lists.{up_from, without, Once}
use Rattle.model.specs.StopSet.{stops_of, excluding}
use Rattle.model.specs.Whole.{whole}
use Rattle.model.specs.Plan.{Plan}
use Rattle.model.specs.declared.Region.{Region}
use Rattle.model.specs.Region.{drained}
use Rattle.model.specs.Rebuild.{fillings, arrangements, choose, arrangement_count}
use Rattle.model.proofs.Lists.{length-up_from}
use Rattle.model.proofs.Arrangements.{once-drained}
use Rattle.model.proofs.Fillings.{begun-count, completed-count}
use Rattle.stop_set.proofs.Laws.{stops-excluding}
use Rattle.rebuild_fillings.specs.Walk.{Filling, fillings_from, plans_from}
use Rattle.rebuild_fillings.specs.Rows.{word_of, done_of, here_of}
use Rattle.rebuild_fillings.proofs.Walk.{fillings_from-none}
use Rattle.rebuild_fillings.proofs.Calls.{call_count-on, call_count-small}
use Rattle.rebuild_fillings.proofs.Places.{placed-all, standing-start}
use Rattle.rebuild_fillings.proofs.Rows.{word-start}
use Rattle.rebuild_fillings.proofs.Reading.{reached-start, read_done, read_here}
use Rattle.rebuild_tables.specs.declared.frame.Frame.{Frame}
use Rattle.rebuild_tables.specs.Frame.{gap_count, drained_count, framed_plan, framed_regions, plan_by}
use Rattle.rebuild_ways.specs.declared.Ways.{Ways}
use Rattle.rebuild_ways.specs.Ways.{own_at}
use Rattle.rebuild_tables.specs.Ways.{gone_by}
use Rattle.rebuild_tables.specs.declared.Kept.{Kept}
use Rattle.rebuild_tables.specs.Kept.{calls_in}
use Rattle.rebuild_tables.specs.Meeting.{trail_from}
use Rattle.rebuild_tables.specs.Walks.{best_plan, Walkable, met_from, plans_met, Walked, Visitable, Visited}
use Rattle.rebuild_tables.proofs.Ways.{driven-none}
use Rattle.rebuild_tables.proofs.Frames.{drained-many}

-- the places 1 to m as a set
pub all-places : (m d all left : ℕ) → d ≡ m → stops_of all ≡ up_from 0 (d + 1) → left ≡ excluding 0 all → stops_of left ≡ up_from 1 m
all-places m d all left ed a e = ap stops_of e ∙ stops-excluding 0 all ∙ ap (without 0) (a ∙ ap (up_from 0) (add-one d)) ∙ ap (up_from 1) ed

module _ (ways : Ways) (f : Frame) (kept : Kept) (others best : Float) (W : Visitable ways f kept others best) (left : ℕ)
    (e : stops_of left ≡ up_from 1 (drained_count f)) where
  abbrev p : ℕ
  p = gap_count f

  abbrev m : ℕ
  m = drained_count f

  size_is : length (stops_of left) ≡ m
  size_is = ap length e ∙ length-up_from 1 m

  done_none : done_of 0 8 ≡ []
  done_none = ap (done_of 0) (sym word-start) ∙ read_done m 0 (up_from 1 m) [] [] (standing-start m) f.framed.few (omega arith)

  here-none : here_of 0 8 ≡ []
  here-none = ap (here_of 0) (sym word-start) ∙ read_here m 0 (up_from 1 m) [] [] (standing-start m) f.framed.few (omega arith)

  few-gaps : p ≤ 3
  few-gaps = omega (arith, f.framed.gaps, f.framed.gapped.few)

  -- the first call
  pub first-call : (own : Float) → own ≡ whole (own_at ways 0) → Walkable ways f kept 0 left 8 own others best
  unfolding gone_by
  first-call own eo = record {
    tabled = W.tabled;
    here = record {
      gap = f.framed.some;
      at = rw e (reached-start m f.framed.few);
      gone = eo ∙ ap whole (rw here-none (omega arith));
      besides = W.start ∙ ap whole (rw (done_none, size_is) (omega (arith, driven-none ways 0)));
    };
    held = W.held;
    room = λ r h. omega (arith, W.fresh r (omega (arith, few-gaps)), call_count-small r 0 (length (stops_of left)) (omega (arith, few-gaps)) (omega (arith, size_is, f.framed.few)));
  }

  abbrev P : Plan
  P = framed_plan f

  abbrev gs : List Region
  gs = framed_regions f

  met_all : met_from f 0 left 8 ≡ fillings p (up_from 1 m)
  met_all =
      ap (λ (l : List ℕ). fillings_from p 0 l (done_of 0 8) (here_of 0 8)) e
      ∙ ap₂ (fillings_from p 0 (up_from 1 m)) done_none here-none
      ∙ fillings_from-none p (up_from 1 m)

  once : Once (drained P gs)
  once = once-drained P gs f.framed.gapped.stretches f.plan.lent.once

  -- the plans met are the arrangements, in the order of the definition
  pub plans-all : plans_met f 0 left 8 ≡ arrangements P gs
  plans-all =
      ap (λ (l : List ℕ). plans_from (plan_by f) p 0 l (done_of 0 8) (here_of 0 8)) (e ∙ ap (up_from 1) (drained-many f))
      ∙ ap₂ (plans_from (plan_by f) p 0 (up_from 1 (length (drained P gs)))) done_none here-none
      ∙ ap (λ (k : ℕ). plans_from (plan_by f) k 0 (up_from 1 (length (drained P gs))) [] []) f.framed.gaps
      ∙ placed-all P gs once

  some-gaps : 0 < length gs
  some-gaps = omega (arith, f.framed.gaps, f.framed.some)

  module _ (k : Kept) (found : Float) (w : Walked ways f kept 0 left 8 k found) where
    calls : (r : ℕ) → r < p → calls_in k r ≡ arrangement_count (suc r) (length (drained P gs))
    calls r h =
        let a : suc r - 0 ≡ suc r = omega arith in
        omega (
          arith,
          w.counted r h,
          W.fresh r (omega (arith, few-gaps)),
          call_count-on r 0 (length (stops_of left)) (omega arith)
              ∙ ap₂ arrangement_count a (size_is ∙ drained-many f),
        )

    pub visited : Visited ways f kept k found
    visited = record {
      held = w.held;
      chosen = λ J pr. w.chosen J pr ∙ ap (choose J (best_plan f kept)) plans-all;
      started = calls 0 f.framed.some ∙ sym (begun-count P gs some-gaps);
      met =
          let a : suc (p - 1) ≡ length gs = omega (arith, f.framed.gaps, f.framed.some) in
          calls (p - 1) (omega (arith, f.framed.some)) ∙ ap (λ (g : ℕ). arrangement_count g (length (drained P gs))) a ∙ sym (completed-count P gs some-gaps);
      noted = w.noted ∙ ap (λ (l : List Filling). trail_from kept.trail (map word_of l)) met_all;
    }
