-- What holds of an empty plan and an empty live set, and is kept by every event, accepted or refused.
use Prim.Native.Nat.{ℕ, zero, suc, ◌<◌, ◌≤◌}
use native.Mathlib.Omega.{arith}
use mathlib.Core.Path.{◌≡◌, refl, sym, ap, subst, ◌∙◌}
use mathlib.Core.Logic.{◌≢◌, inl, inr}
use mathlib.Core.Bool.{Bool, true, false, cond, ◌&&◌, and-eq-true_iff}
use mathlib.Core.List.{List, [], ◌∷◌}
use lib.Dec.{eqb, ltb}
use lib.ListN.{length, length-replicate}
use borrow.Author.Tests.{ltb-true}
use Rattle.model.specs.Lists.{concat, count, Once}
use Rattle.model.specs.Whole.{whole}
use Rattle.model.specs.Job.{Job, vehicle_count, stop_count}
use Rattle.model.specs.Plan.{Plan, used_part, encode, decode, Lent}
use Rattle.model.specs.StopSet.{bit, contains, including, excluding, stops_of}
use Rattle.model.specs.Rebuild.{empty_plan}
use Rattle.model.specs.Live.{Covers, live_cost, arrived, cancelled}
use Rattle.model.specs.Calls.{made, new_live, plan_left, live_answer}
use Rattle.model.specs.Refusals.{bad_live, refusal}
use Rattle.model.specs.Days.{Event, Arrival, Cancellation, stop_of, arrives, last_arrives, Day, new_day, call_made, arguments_of, next, next_all, plan_of, WithinLimits}
use Rattle.model.proofs.Lists.{Tested, tested, count-member}
use Rattle.model.proofs.Counts.{concat-empty, below-all_below}
use Rattle.model.proofs.PlanForm.{concat-decode, decode-encode, lent-encode, lent_length, lent-4, lent-11}
use Rattle.model.proofs.Live.{arrived-routes, arrived-once, arrived-other, cancelled-routes, cancelled-once}
use Rattle.stop_set.proofs.Digits.{bit-zero, bit-suc, bit-including-same, bit-including-other, bit-excluding-same, bit-excluding-other}
use Rattle.stop_set.proofs.Laws.{member-contains, stops-small}
use Rattle.stop_set.proofs.Live.{arriving-absent, cancelling-covers}
use Rattle.call_tests.proofs.Live.{live_all}
use Rattle.day_promise.specs.Own.{own_refusal}
use Rattle.day_promise.proofs.Limits.{few-stops}
use Rattle.day_promise.proofs.Own.{refusal-own}

-- ---- sets

-- whether a stop is in a set goes by its digit
by-digit : (s a b : ℕ) → bit s a ≡ bit s b → contains s a ≡ contains s b
by-digit s a b e = ap (λ (d : ℕ). eqb d 1) e

in-including : (s set : ℕ) → contains s (including s set) ≡ true
in-including s set = ap (λ (d : ℕ). eqb d 1) (bit-including-same s set)

out-excluding : (s set : ℕ) → contains s (excluding s set) ≡ false
out-excluding s set = ap (λ (d : ℕ). eqb d 1) (bit-excluding-same s set)

-- the empty set has none
bit-none : (s : ℕ) → bit s 0 ≡ 0
bit-none zero = bit-zero 0
bit-none (suc s) = bit-suc s 0 ∙ bit-none s

-- both have to hold, so none where the second does not
and-false : (t : Bool) → (t && false) ≡ false
and-false true = refl
and-false false = refl

-- ---- what is kept

module _ (J : Job) where
  -- a day on which f says which stops are live, of those below n
  pub record Kept (D : Day) (f : ℕ → Bool) : Type 0 where
    pub lent : Lent (vehicle_count J) (stop_count J) D.plan
    pub inside : (s : ℕ) → 1 ≤ count s (concat (plan_of J D)) → contains s D.live ≡ true
    pub live : (s : ℕ) → contains s D.live ≡ (ltb s (stop_count J) && f s)
    pub cost : D.cost ≡ whole (live_cost J D.live (plan_of J D))

  -- such a stop is below n
  told_below : (t : Bool) (s set : ℕ) → contains s set ≡ (ltb s (stop_count J) && t) → contains s set ≡ true → s < stop_count J
  told_below t s set a b = ltb-true s (stop_count J) ((and-eq-true_iff (ltb s (stop_count J)) t).0 (sym a ∙ b)).0

  -- a plan of v routes that holds live stops alone, none twice, with the cost that it has
  kept-plan : (X : Plan) (set : ℕ) (f : ℕ → Bool) → length X ≡ vehicle_count J → Once (concat X)
      → ((s : ℕ) → 1 ≤ count s (concat X) → contains s set ≡ true) → ((s : ℕ) → contains s set ≡ (ltb s (stop_count J) && f s))
      → Kept (record { plan = encode (stop_count J) X; live = set; cost = whole (live_cost J set X) }) f
  kept-plan X set f v o i l =
      let d : decode (vehicle_count J) (encode (stop_count J) X) ≡ X = decode-encode (stop_count J) X (vehicle_count J) v in
      record {
        lent = lent-encode (vehicle_count J) (stop_count J) X v o (λ s h. told_below (f s) s set (l s) (i s h));
        inside = rw d i;
        live = l;
        cost = rw d;
      }

  pub kept_new : Kept (new_day J) (λ s. false)
  unfolding new_day
  kept_new =
      kept-plan (empty_plan J) 0 (λ s. false) (length-replicate (vehicle_count J) []) (rw (concat-empty (vehicle_count J)) (λ x. omega arith))
      (rw (concat-empty (vehicle_count J)) (λ s h. absurd (omega arith)))
      λ s. ap (λ (d : ℕ). eqb d 1) (bit-none s) ∙ sym (and-false (ltb s (stop_count J)))

  -- ---- what an event is refused for

  module _ (D : Day) (f : ℕ → Bool) (K : Kept D f) where
    pub kept-covers : Covers (stop_count J) D.live (plan_of J D)
    kept-covers =
        record {
          inside = K.inside;
          below =
              λ s h.
              told_below (f s) s D.live (K.live s) (sym (member-contains s D.live (stops-small D.live s h)) ∙ count-member s (stops_of D.live) h);
        }

    -- none of 4 and 11 applies
    kept_set : bad_live (vehicle_count J) (stop_count J) D.live D.plan ≡ false
    unfolding bad_live
    kept_set =
        let i : (s : ℕ) → 1 ≤ count s (used_part (vehicle_count J) D.plan) → contains s D.live ≡ true = rw concat-decode at K.inside in
        rw (live_all D.live (used_part (vehicle_count J) D.plan) i, below-all_below (stop_count J) (stops_of D.live) kept-covers.below)

    -- so its own stop alone
    pub kept-refusal : WithinLimits J → (e : Event) → refusal (call_made e) (arguments_of J D e) ≡ own_refusal e (stop_count J) (contains (stop_of e) D.live)
    kept-refusal W e =
        refusal-own J D W (lent-4 (vehicle_count J) (stop_count J) D.plan K.lent) kept_set (lent-11 (vehicle_count J) (stop_count J) D.plan K.lent) e

  -- ---- what an event leaves

  module _ (D : Day) (e : Event) where
    pub next-refused : (k : ℕ) → refusal (call_made e) (arguments_of J D e) ≡ suc k → next J D e ≡ D
    unfolding next live_answer plan_left
    next-refused k h = rw h

    next-accepted : refusal (call_made e) (arguments_of J D e) ≡ 0 → next J D e
        ≡ record {
          plan = encode (stop_count J) (made (call_made e) (arguments_of J D e));
          live = new_live (call_made e) (arguments_of J D e);
          cost = whole (live_cost J (new_live (call_made e) (arguments_of J D e)) (made (call_made e) (arguments_of J D e)));
        }
    unfolding next live_answer plan_left
    next-accepted h = rw h

  -- which stops are live by the events, with one event more
  abbrev told : Event → (ℕ → Bool) → ℕ → Bool
  told e f x = cond (eqb x (stop_of e)) (arrives e) (f x)

  -- a set holds the stops that it is told to: of its own stop it is known, and the others are as they were
  told-live : (e : Event) (f : ℕ → Bool) (set new : ℕ) → contains (stop_of e) new ≡ (ltb (stop_of e) (stop_count J) && arrives e)
      → ((x : ℕ) → x ≢ stop_of e → contains x new ≡ contains x set) → ((x : ℕ) → contains x set ≡ (ltb x (stop_count J) && f x))
      → (x : ℕ) → contains x new ≡ (ltb x (stop_count J) && told e f x)
  told-live e f set new own other l x = go (tested x (stop_of e))
    where
      go : Tested x (stop_of e) → contains x new ≡ (ltb x (stop_count J) && told e f x)
      go (inl q) = rw (q.1, q.0) own
      go (inr q) = rw q.1 (other x q.0 ∙ l x)

  module _ (W : WithinLimits J) (D : Day) (f : ℕ → Bool) (K : Kept D f) where
    kept-refused : (e : Event) (k : ℕ) → contains (stop_of e) D.live ≡ (ltb (stop_of e) (stop_count J) && arrives e)
        → refusal (call_made e) (arguments_of J D e) ≡ suc k → Kept (next J D e) (told e f)
    kept-refused e k own r =
        subst (λ (X : Day). Kept X (told e f)) (sym (next-refused D e k r))
        (record {
          lent = K.lent;
          inside = K.inside;
          live = told-live e f D.live D.live own (λ x ne. refl) K.live;
          cost = K.cost;
        })

    -- a stop not below n is not live
    beyond : (s : ℕ) (t : Bool) → ltb s (stop_count J) ≡ false → contains s D.live ≡ (ltb s (stop_count J) && t)
    beyond s t e = K.live s ∙ rw e

    arrived-inside : (s x : ℕ) → 1 ≤ count x (concat (arrived J D.live s (plan_of J D))) → contains x (including s D.live) ≡ true
    arrived-inside s x h =
        elim (tested x s) [
          | inl q ↦ rw q.0 (in-including s D.live)
          | inr q ↦
              by-digit x (including s D.live) D.live (bit-including-other x s D.live q.0)
              ∙ K.inside x (omega (arith, arrived-other J D.live s (plan_of J D) x q.0))
        ]

    kept-arrival : (s : ℕ) → Kept (next J D (Arrival s)) (told (Arrival s) f)
    unfolding made new_live
    kept-arrival s = go (ltb s (stop_count J)) refl (contains s D.live) refl
      where
        go : (t : Bool) → ltb s (stop_count J) ≡ t → (u : Bool) → contains s D.live ≡ u → Kept (next J D (Arrival s)) (told (Arrival s) f)
        go false et u eu = kept-refused (Arrival s) 11 (beyond s true et) (kept-refusal D f K W (Arrival s) ∙ rw et)
        go true et true eu = kept-refused (Arrival s) 15 (eu ∙ rw et) (kept-refusal D f K W (Arrival s) ∙ rw (et, eu))
        go true et false eu =
            let P = plan_of J D in
            subst (λ (Y : Day). Kept Y (told (Arrival s) f)) (sym (next-accepted D (Arrival s) (kept-refusal D f K W (Arrival s) ∙ rw (et, eu))))
            (kept-plan (arrived J D.live s P) (including s D.live) (told (Arrival s) f)
            (arrived-routes J D.live s P ∙ lent_length _ _ _ K.lent)
            (arrived-once J D.live s P K.lent.once (arriving-absent (stop_count J) D.live P (few-stops J W) K.lent.below K.lent.once (kept-covers D f K) s (ltb-true s (stop_count J) et) eu))
            (arrived-inside s)
            (told-live (Arrival s) f D.live (including s D.live) (in-including s D.live ∙ rw et)
            (λ x ne. by-digit x (including s D.live) D.live (bit-including-other x s D.live ne)) K.live))

    kept-cancellation : (s : ℕ) → Kept (next J D (Cancellation s)) (told (Cancellation s) f)
    unfolding made new_live
    kept-cancellation s = go (ltb s (stop_count J)) refl (contains s D.live) refl
      where
        go : (t : Bool) → ltb s (stop_count J) ≡ t → (u : Bool) → contains s D.live ≡ u → Kept (next J D (Cancellation s)) (told (Cancellation s) f)
        go false et u eu = kept-refused (Cancellation s) 11 (beyond s false et) (kept-refusal D f K W (Cancellation s) ∙ rw et)
        go true et false eu = kept-refused (Cancellation s) 16 (eu ∙ rw et) (kept-refusal D f K W (Cancellation s) ∙ rw (et, eu))
        go true et true eu =
            let P = plan_of J D in
            subst (λ (Y : Day). Kept Y (told (Cancellation s) f)) (sym (next-accepted D (Cancellation s) (kept-refusal D f K W (Cancellation s) ∙ rw (et, eu))))
            (kept-plan (cancelled s P) (excluding s D.live) (told (Cancellation s) f)
            (cancelled-routes s P ∙ lent_length _ _ _ K.lent)
            (cancelled-once s P K.lent.once)
            (cancelling-covers (stop_count J) D.live P (few-stops J W) K.lent.below K.lent.once (kept-covers D f K) s).inside
            (told-live (Cancellation s) f D.live (excluding s D.live) (out-excluding s D.live ∙ rw et)
            (λ x ne. by-digit x (excluding s D.live) D.live (bit-excluding-other x s D.live ne)) K.live))

    kept_next : (e : Event) → Kept (next J D e) (told e f)
    kept_next (Arrival s) = kept-arrival s
    kept_next (Cancellation s) = kept-cancellation s

  pub kept-all : WithinLimits J → (D : Day) (f : ℕ → Bool) → Kept D f → (es : List Event) → Kept (next_all J D es) (λ s. last_arrives s (f s) es)
  kept-all W D f K [] = K
  kept-all W D f K (e ∷ es) = kept-all W (next J D e) (told e f) (kept_next W D f K e) es
