-- Specification, 15: what is promised of every list of arrivals and cancellations on a job within limits.
use Prim.Native.Nat.{ℕ, zero, suc, ◌+◌, ◌≤◌, ◌<◌}
use native.Mathlib.Omega.{arith}
use mathlib.Core.Path.{◌≡◌, refl, sym, ap, ◌∙◌}
use mathlib.Core.Logic.{◌≢◌}
use mathlib.Core.Bool.{Bool, true, false, cond}
use mathlib.Core.List.{List}
use lib.Dec.{ltb}
use Rattle.model.specs.Lists.{concat, count}
use Rattle.model.specs.Whole.{exact}
use Rattle.model.specs.Job.{Job, stop_count}
use Rattle.model.specs.Plan.{Plan}
use Rattle.model.specs.StopSet.{stops_of}
use Rattle.model.specs.Cost.{driving_cost, missed_cost}
use Rattle.model.specs.Live.{live_cost}
use Rattle.model.specs.Refusals.{refusal}
use Rattle.model.specs.Days.{Event, Arrival, Cancellation, stop_of, last_arrives, live_after, Day, new_day, call_made, arguments_of, next, day_after, plan_of, WithinLimits, DayPromise}
use Rattle.model.proofs.Lists.{member-count}
use Rattle.model.proofs.PlanForm.{lent-is_plan, lent_length}
use Rattle.stop_set.proofs.Laws.{member-contains}
use Rattle.whole.proofs.Laws.{amount-is}
use Rattle.delivery.proofs.Live.{live_cost-is}
use Rattle.day_promise.specs.Own.{own_refusal}
use Rattle.day_promise.proofs.Limits.{few-stops, formed-exact}
use Rattle.day_promise.proofs.Missed.{missed-count}
use Rattle.day_promise.proofs.Kept.{Kept, kept_new, kept-refusal, next-refused, kept-all}

-- 11 is none of these numbers
own-other : (e : Event) (n : ℕ) (live : Bool) → own_refusal e n live ≢ 11
own-other (Arrival s) n live = go (ltb s n) live
  where
    go : (t u : Bool) → ◌≢◌ {A = ℕ} (cond t (cond u 16 0) 12) 11
    go true true h = omega arith
    go true false h = omega arith
    go false u h = omega arith
own-other (Cancellation s) n live = go (ltb s n) live
  where
    go : (t u : Bool) → ◌≢◌ {A = ℕ} (cond t (cond u 0 17) 12) 11
    go true true h = omega arith
    go true false h = omega arith
    go false u h = omega arith

module _ (J : Job) (W : WithinLimits J) (es : List Event) where
  -- the day after the events, and which stops they leave live
  abbrev after : Day
  after = day_after J es

  abbrev live-by : ℕ → Bool
  live-by s = last_arrives s false es

  kept : Kept J after live-by
  kept = kept-all J W (new_day J) (λ s. false) (kept_new J) es

  -- the stops of the plan are among the live ones
  placed-live : (s : ℕ) → 1 ≤ count s (concat (plan_of J after)) → 1 ≤ count s (stops_of after.live)
  placed-live s h =
      member-count s (stops_of after.live) (member-contains s after.live (omega (arith, kept.lent.below s h, few-stops J W)) ∙ kept.inside s h)

  refused-same : (e : Event) (k : ℕ) → refusal (call_made e) (arguments_of J after e) ≡ k → k ≢ 0 → next J after e ≡ after
  refused-same e zero r ne = absurd (ne refl)
  refused-same e (suc k) r ne = next-refused J after e k r

  -- an event is refused for its own stop alone, and the events before it tell with which number
  pub refused-for : (e : Event) → refusal (call_made e) (arguments_of J after e) ≡ own_refusal e (stop_count J) (live_after (stop_count J) (stop_of e) es)
  refused-for e = kept-refusal J after live-by kept W e ∙ ap (own_refusal e (stop_count J)) (kept.live (stop_of e))

  pub day : DayPromise J es after
  day =
      let P : Plan = plan_of J after in
      let small : live_cost J after.live P < exact = formed-exact J W after.live P (lent_length _ _ _ kept.lent) kept.lent.once kept.lent.below in
      record {
        live = kept.live;
        form = lent-is_plan _ _ _ kept.lent;
        once = kept.lent.once;
        inside = kept.inside;
        cost = kept.cost;
        missed =
            live_cost-is J after.live P
            ∙ ap (λ (m : ℕ). driving_cost J P + missed_cost J.prices m) (sym (missed-count after.live P kept.lent.once placed-live));
        small = rw (amount-is after.cost (live_cost J after.live P) (omega arith) kept.cost) small;
        unchanged = λ e ne. refused-same e (refusal (call_made e) (arguments_of J after e)) refl ne;
        taken = λ e r. own-other e (stop_count J) (live_after (stop_count J) (stop_of e) es) (sym (refused-for e) ∙ r);
      }
