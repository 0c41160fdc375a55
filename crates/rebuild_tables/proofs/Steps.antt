-- The steps of the walk: what a call has kept and counted when the next gap is walked or the arrangement met, and after each stop.
use Prim.Native.Nat.{ℕ, suc, ◌+◌, ◌-◌, ◌*◌, ◌^◌, ◌≤◌, ◌<◌}
use native.Mathlib.Nat.{suc-mul}
use native.Mathlib.Numerals.{add-one}
use native.Mathlib.Omega.{arith}
use mathlib.Core.Path.{◌≡◌, refl, sym, ap, ap₂, ◌∙◌, subst}
use mathlib.Core.Bool.{Bool, true, false, cond}
use mathlib.Core.Logic.{◌⊎◌, inl, inr}
use mathlib.Core.List.{List, [], ◌∷◌, ◌++◌, map, append-nil}
use lib.Dec.{eqb}
use lib.Ieee.{Float}
use lib.ListN.{length, get_or, length-append}
use lib.Seq.{get_or-set_same, get_or-set_other}
use Rattle.model.specs.Lists.{count, without, concat}
use Rattle.model.specs.StopSet.{stops_of, excluding}
use Rattle.model.specs.Whole.{whole, amount}
use Rattle.model.specs.Job.{Job}
use Rattle.model.specs.Plan.{Plan, placed, encode}
use Rattle.model.specs.Rebuild.{better, choose}
use Rattle.model.proofs.Lists.{tested, one_same, one-other, map-append, concat-append}
use Rattle.whole.proofs.Laws.{amount-is}
use Rattle.stop_set.specs.Answers.{First}
use Rattle.stop_set.proofs.Laws.{stops-none, taken-list, taken-size, taken-count}
use Rattle.rebuild_fillings.specs.Walk.{Filling, empties, fillings_from, fillings_at, plans_from, plans_at, call_count}
use Rattle.rebuild_fillings.specs.Rows.{word_of, filling_of, done_of, here_of}
use Rattle.rebuild_fillings.proofs.Walk.{from_next, from_last, at-stop, at_none}
use Rattle.rebuild_fillings.proofs.Calls.{call_count-step, call_count-before}
use Rattle.rebuild_fillings.proofs.Plans.{choose-next, choose-last, choose-stop, choose-none}
use Rattle.rebuild_fillings.proofs.Reading.{reached-below, stop-done, stop-here}
use Rattle.rebuild_fillings.proofs.Full.{full-worded}
use Rattle.rebuild_tables.specs.declared.frame.Frame.{Frame}
use Rattle.rebuild_tables.specs.Frame.{gap_count, placed_count, drained_count, plan_by, form_of, Placeable}
use Rattle.rebuild_ways.specs.declared.Ways.{Ways}
use Rattle.rebuild_tables.specs.Ways.{cost_by}
use Rattle.rebuild_tables.specs.declared.Kept.{Kept}
use Rattle.rebuild_tables.specs.Kept.{calls_in, Counted}
use Rattle.rebuild_tables.specs.Meeting.{trail_with, trail_from, placed_with, prefers, wins, Comparable, Met}
use Rattle.rebuild_tables.specs.Walks.{FullIn, later, Here, best_plan, Held, Walkable, met_from, plans_met, Priced, Walked}
use Rattle.rebuild_fillings.proofs.Places.{standing-size}
use Rattle.rebuild_tables.proofs.Frames.{framed-placed}
use Rattle.rebuild_tables.proofs.Weights.{padded, padded-is, done_next, here-next, stop-small}

-- the stops left
abbrev size : ℕ → ℕ
size left = length (stops_of left)

trail-append : (w : ℕ) (a b : List ℕ) → trail_from w (a ++ b) ≡ trail_from (trail_from w a) b
unfolding trail_from
trail-append w [] b = refl
trail-append w (x ∷ a) b = trail-append (trail_with w x) a b

-- what is still to come in the loop
abbrev met_on : Frame → ℕ → ℕ → ℕ → ℕ → List Filling
met_on f q left word next = fillings_at (gap_count f) q (stops_of left) (done_of q word) (here_of q word) (stops_of next)

abbrev plans_on : Frame → ℕ → ℕ → ℕ → ℕ → List Plan
plans_on f q left word next = plans_at (plan_by f) (gap_count f) q (stops_of left) (done_of q word) (here_of q word) (stops_of next)

-- what a turn of the loop adds in gap r
abbrev turn : ℕ → ℕ → ℕ → ℕ
turn r q left = call_count r q (size left - 1)

-- the call is counted, and the next gap is walked or the arrangement met
pub record Opened (ways : Ways) (f : Frame) (q left word : ℕ) (entry kept : Kept) (found : Float) : Type 0 where
  pub held : Held ways f kept found
  pub each : (r : ℕ) → r < gap_count f → calls_in kept r + size left * turn r q left ≡ calls_in entry r + call_count r q (size left)
  pub noted : trail_from kept.trail (map word_of (met_on f q left word left)) ≡ trail_from entry.trail (map word_of (met_from f q left word))
  pub chosen : (J : Job) → Priced J ways f → choose J (best_plan f kept) (plans_on f q left word left) ≡ choose J (best_plan f entry) (plans_met f q left word)

-- the stops of `next` are still to come in gap q, of those that were left when the loop began
pub record Looping (ways : Ways) (f : Frame) (q left word : ℕ) (start kept : Kept) (found : Float) (next : ℕ) : Type 0 where
  pub held : Held ways f kept found
  pub within : (t : ℕ) → count t (stops_of next) ≤ count t (stops_of left)
  pub each : (r : ℕ) → r < gap_count f → calls_in kept r + size next * turn r q left ≡ calls_in start r + size left * turn r q left
  pub noted : trail_from kept.trail (map word_of (met_on f q left word next)) ≡ trail_from start.trail (map word_of (met_on f q left word left))
  pub chosen : (J : Job) → Priced J ways f → choose J (best_plan f kept) (plans_on f q left word next) ≡ choose J (best_plan f start) (plans_on f q left word left)

-- the same numbers, the same preference
prefers-same : (a p : ℕ) (x : List ℕ) (b q : ℕ) (y : List ℕ) {a' p' : ℕ} {x' : List ℕ} {b' q' : ℕ} {y' : List ℕ} → a ≡ a' → p ≡ p' → x ≡ x' → b ≡ b' → q ≡ q' → y ≡ y'
    → prefers a p x b q y ≡ prefers a' p' x' b' q' y'
prefers-same a p x b q y ea ep ex eb eq ey = rw (ea, ep, ex, eb, eq, ey)

-- one call more in gap q
counted-at : (q : ℕ) (kept counted : Kept) → Counted q kept counted → q < 3 → (r : ℕ) → calls_in counted r ≡ calls_in kept r + cond (eqb q r) 1 0
counted-at q kept counted C h r = elim (tested q r) [
  | inl e ↦ rw (← e.0, C.calls) (get_or-set_same kept.calls q (calls_in kept q + 1) 0 (omega (arith, kept.three)) ∙ omega (arith, one_same q q refl))
  | inr f ↦ rw C.calls (get_or-set_other kept.calls q r (calls_in kept q + 1) 0 (λ e. f.0 (sym e)) ∙ omega (arith, one-other q r f.0))
]

module _ {ways : Ways} {f : Frame} {kept : Kept} {q left word : ℕ} {len others best : Float} (c : Walkable ways f kept q left word len others best) where
  abbrev p : ℕ
  p = gap_count f

  abbrev m : ℕ
  m = drained_count f

  abbrev L : List ℕ
  L = stops_of left

  pub gaps-few : p ≤ 3
  gaps-few = omega (arith, f.framed.gaps, f.framed.gapped.few)

  pub gap-low : q < 3
  gap-low = omega (arith, gaps-few, c.here.gap)

  pub word_below : word < 16 ^ 10
  word_below = reached-below m q L word c.here.at

  pub count-below : calls_in kept q ≤ 390453
  count-below = omega (arith, c.room q c.here.gap, call_count-step q q (size left), one_same q q refl)

  module _ {counted : Kept} (C : Counted q kept counted) where
    calls-at : (r : ℕ) → calls_in counted r ≡ calls_in kept r + cond (eqb q r) 1 0
    calls-at = counted-at q kept counted C gap-low

    held-counted : Held ways f counted best
    held-counted = record { word = rw C.best c.held.word; cost = rw C.best c.held.cost; placed = rw (C.best, C.most) c.held.placed }

    -- ---- the next gap

    module _ (h : q + 1 < p) (w : ℕ) (ew : w ≡ word * 16 + (8 + (q + 1))) where
      abbrev r : ℕ
      r = q + 1

      pub call_next : (own rest : Float) → Here ways f r left w own rest → Walkable ways f counted r left w own rest best
      call_next own rest at = record {
        tabled = c.tabled;
        here = at;
        held = held-counted;
        room = λ i k. rw (add-one q) (omega (arith, c.room i k, calls-at i, call_count-step i q (size left)));
      }

      dn : done_of r w ≡ done_of q word ++ here_of q word ∷ []
      dn = done_next c.tabled c.here h w ew

      hn : here_of r w ≡ []
      hn = here-next c.tabled c.here h w ew

      pub opened-next : (k : Kept) (found : Float) → Walked ways f counted r left w k found → Opened ways f q left word kept k found
      opened-next k found d = record {
        held = d.held;
        each = λ i j. omega (arith, rw (add-one q) at (d.counted i j), calls-at i, call_count-step i q (size left));
        noted =
            ap (λ (x : ℕ). trail_from x (map word_of (met_on f q left word left)))
            (d.noted ∙ ap₂ trail_from C.trail (ap (map word_of) (ap₂ (fillings_from p r L) dn hn)))
            ∙ sym (trail-append kept.trail (map word_of ahead) (map word_of (met_on f q left word left)))
            ∙ ap (trail_from kept.trail)
            (sym (ap (map word_of) (from_next p q L (done_of q word) (here_of q word) h) ∙ map-append word_of ahead (met_on f q left word left)));
        chosen = λ J pr.
            ap (λ (B : Plan). choose J B (plans_on f q left word left))
            (d.chosen J pr ∙ ap₂ (choose J) (ap (λ (x : ℕ). plan_by f (filling_of x)) C.best) (ap₂ (plans_from (plan_by f) p r L) dn hn))
            ∙ sym (choose-next (plan_by f) p q L (done_of q word) (here_of q word) J (best_plan f kept) h);
      }
        where
          ahead : List Filling
          ahead = fillings_from p r L (done_of q word ++ here_of q word ∷ []) []

    -- ---- the arrangement is met

    module _ (h : p ≤ q + 1) where
      abbrev X : Filling
      X = done_of q word ++ here_of q word ∷ []

      full : FullIn f X
      full =
          let z : later f q ≡ 0 = omega arith in
          subst (λ (k : ℕ). FullIn f (done_of q word ++ here_of q word ∷ empties k)) z (padded-is c.tabled c.here)

      reads : (filling_of word ≡ X) × Placeable f word
      reads = full-worded p m X full gaps-few f.framed.few word c.here.at.says

      module _ (cost : Float) (ec : cost ≡ whole (cost_by ways m (padded c.tabled c.here))) where
        cost-here : cost ≡ whole (cost_by ways m X)
        cost-here =
            let z : later f q ≡ 0 = omega arith in
            ec ∙ ap (λ (k : ℕ). whole (cost_by ways m (done_of q word ++ here_of q word ∷ empties k))) z

        pub meet-asks : Comparable f counted word cost best
        meet-asks = record {
          own = reads.1;
          other = rw C.best c.held.word;
          known = (cost_by ways m X, c.tabled.small X full, cost-here);
          before = (cost_by ways m (filling_of kept.best), c.tabled.small (filling_of kept.best) c.held.word.full, c.held.cost);
        }

        few-left : m - length (concat X) ≡ size left
        few-left =
            let e : length (concat X) ≡ length (concat (done_of q word)) + length (here_of q word) = simp (concat-append, append-nil, length-append) in
            omega (arith, standing-size m q L (done_of q word) (here_of q word) c.here.at.standing)

        placed-here : placed (plan_by f X) + size left ≡ placed_count f
        placed-here = omega (arith, framed-placed f X full, few-left)

        pub meet_left : size left ≤ placed_count f
        meet_left = omega (arith, placed-here)

        placed-is : placed_with f left ≡ placed (plan_by f X)
        placed-is = omega (arith, placed-here)

        -- the word wins where its plan is better
        wins-better : (J : Job) → Priced J ways f → wins f counted (placed_with f left) word cost best ≡ better J (plan_by f X) (best_plan f kept)
        unfolding better
        wins-better J pr =
            let a = amount-is cost (cost_by ways m X) (c.tabled.small X full) cost-here ∙ sym (pr.each X full) in
            let B : Filling = filling_of kept.best in
            let b = amount-is best (cost_by ways m B) (c.tabled.small B c.held.word.full) c.held.cost ∙ sym (pr.each B c.held.word.full) in
            prefers-same (amount cost) (placed_with f left) (form_of f word) (amount best) counted.most (form_of f counted.best)
            a placed-is (ap₂ (λ (i : ℕ) (x : Filling). encode i (plan_by f x)) (sym pr.total) reads.0)
            b (C.most ∙ c.held.placed) (ap₂ (λ (i : ℕ) (x : ℕ). encode i (plan_by f (filling_of x))) (sym pr.total) C.best)

        module _ (k : Kept) (found : Float) (M : Met f left word cost best counted k found) where
          abbrev won : Bool
          won = wins f counted (placed_with f left) word cost best

          held-met : (won ≡ true) ⊎ (won ≡ false) → Held ways f k found
          held-met (inl e) =
              let t = M.taken e in
              record {
                word = rw t.0 reads.1;
                cost = t.2 ∙ cost-here ∙ ap (λ (x : Filling). whole (cost_by ways m x)) (sym (ap filling_of t.0 ∙ reads.0));
                placed = t.1 ∙ placed-is ∙ ap (λ (x : Filling). placed (plan_by f x)) (sym (ap filling_of t.0 ∙ reads.0));
              }
          held-met (inr e) =
              let t = M.stays e in
              record {
                word = rw t.0 held-counted.word;
                cost = t.2 ∙ held-counted.cost ∙ ap (λ (x : ℕ). whole (cost_by ways m (filling_of x))) (sym t.0);
                placed = t.1 ∙ held-counted.placed ∙ ap (λ (x : ℕ). placed (plan_by f (filling_of x))) (sym t.0);
              }

          plan-met : (won ≡ true) ⊎ (won ≡ false) → (J : Job) → Priced J ways f
              → best_plan f k ≡ cond (better J (plan_by f X) (best_plan f kept)) (plan_by f X) (best_plan f kept)
          plan-met (inl e) J pr = rw (← wins-better J pr, e) (ap (λ (x : ℕ). plan_by f (filling_of x)) (M.taken e).0 ∙ ap (plan_by f) reads.0)
          plan-met (inr e) J pr = rw (← wins-better J pr, e) (ap (λ (x : ℕ). plan_by f (filling_of x)) ((M.stays e).0 ∙ C.best))

          either : (b : Bool) → (b ≡ true) ⊎ (b ≡ false)
          either true = inl refl
          either false = inr refl

          pub opened-last : Opened ways f q left word kept k found
          unfolding trail_from
          opened-last = record {
            held = held-met (either won);
            each = λ i j.
                omega (
                  arith,
                  ap (λ (l : List ℕ). get_or l i 0) M.counts,
                  calls-at i,
                  call_count-step i q (size left),
                  call_count-before i (suc q) (size left) (omega arith),
                );
            noted =
                ap (λ (x : ℕ). trail_from x (map word_of (met_on f q left word left))) (M.noted ∙ ap₂ trail_with C.trail c.here.at.says)
                ∙ sym (ap (λ l. trail_from kept.trail (map word_of l)) (from_last p q L (done_of q word) (here_of q word) (omega (arith, c.here.gap))));
            chosen = λ J pr.
                ap (λ (B : Plan). choose J B (plans_on f q left word left)) (plan-met (either won) J pr)
                ∙ sym (choose-last (plan_by f) p q L (done_of q word) (here_of q word) J (best_plan f kept) (omega (arith, c.here.gap)));
          }

  -- ---- the loop

  module _ {k₀ : Kept} {found₀ : Float} (o : Opened ways f q left word kept k₀ found₀) where
    pub looping-start : Looping ways f q left word k₀ k₀ found₀ left
    looping-start = record { held = o.held; within = λ t. omega arith; each = λ r i. refl; noted = refl; chosen = λ J pr. refl }

  module _ {k₀ : Kept} {found₀ : Float} (o : Opened ways f q left word kept k₀ found₀) {k : Kept} {found : Float} {next : ℕ}
      (l : Looping ways f q left word k₀ k found next) where
    pub looping-end : next ≡ 0 → Walked ways f kept q left word k found
    unfolding trail_from
    looping-end e = record {
      held = l.held;
      counted = λ i j.
          let z : size next ≡ 0 = ap (λ (x : ℕ). size x) e ∙ ap length stops-none in
          let y : calls_in k i + 0 * turn i q left ≡ calls_in k₀ i + size left * turn i q left = rw z at (l.each i j) in
          omega (arith, o.each i j);
      noted =
          sym (ap (λ x. trail_from k.trail (map word_of x))
          (ap (fillings_at p q L (done_of q word) (here_of q word)) (ap stops_of e ∙ stops-none) ∙ at_none p q L (done_of q word) (here_of q word)))
          ∙ l.noted
          ∙ o.noted;
      chosen = λ J pr.
          sym (ap (λ x. choose J (best_plan f k) (plans_at (plan_by f) p q L (done_of q word) (here_of q word) x)) (ap stops_of e ∙ stops-none)
          ∙ choose-none (plan_by f) p q L (done_of q word) (here_of q word) J (best_plan f k))
          ∙ l.chosen J pr
          ∙ o.chosen J pr;
    }

    module _ {s rest fewer : ℕ} (first : First next s) (er : rest ≡ excluding s next) (ef : fewer ≡ excluding s left) where
      in-next : 1 ≤ count s (stops_of next)
      in-next = rw first.list (omega (arith, one_same s s refl))

      pub in_left : 1 ≤ count s L
      in_left = omega (arith, in-next, l.within s)

      pub turn_small : s ≤ 7
      turn_small = stop-small c.tabled c.here s in_left fewer ef

      fewer-size : size fewer ≡ size left - 1
      fewer-size = omega (arith, taken-size left s fewer in_left ef)

      pub fewer-less : size fewer < size left
      fewer-less = omega (arith, taken-size left s fewer in_left ef)

      pub rest-less : size rest < size next
      rest-less = omega (arith, taken-size next s rest in-next er)

      turn-sum : (r : ℕ) → size next * turn r q left ≡ size rest * turn r q left + turn r q left
      turn-sum r = ap (λ (x : ℕ). x * turn r q left) (taken-size next s rest in-next er) ∙ suc-mul (size rest) (turn r q left)

      pub call-stop : (gone besides : Float) → Here ways f q fewer (word * 16 + s) gone besides → Walkable ways f k q fewer (word * 16 + s) gone besides found
      call-stop gone besides at = record {
        tabled = c.tabled;
        here = at;
        held = l.held;
        room = λ r i. rw fewer-size (omega (arith, c.room r i, o.each r i, l.each r i, turn-sum r));
      }

      pub looping-on : (k' : Kept) (found' : Float) → Walked ways f k q fewer (word * 16 + s) k' found' → Looping ways f q left word k₀ k' found' rest
      looping-on k' found' d = record {
        held = d.held;
        within = λ t. omega (arith, l.within t, taken-count next s rest in-next er t);
        each = λ r i. omega (arith, rw fewer-size at (d.counted r i), l.each r i, turn-sum r);
        noted =
            ap (λ (w : ℕ). trail_from w (map word_of (met_on f q left word rest))) (d.noted ∙ ap (λ x. trail_from k.trail (map word_of x)) met-stop)
            ∙ sym (trail-append k.trail (map word_of here-stop) (map word_of (met_on f q left word rest)))
            ∙ ap (trail_from k.trail) (sym (ap (map word_of) turned ∙ map-append word_of here-stop (met_on f q left word rest)))
            ∙ l.noted;
        chosen = λ J pr.
            ap (λ (B : Plan). choose J B (plans_on f q left word rest)) (d.chosen J pr ∙ ap (choose J (best_plan f k)) plans-met)
            ∙ sym (choose-stop (plan_by f) p q L (done_of q word) (here_of q word) J (best_plan f k) s (stops_of rest))
            ∙ ap (λ x. choose J (best_plan f k) (plans_at (plan_by f) p q L (done_of q word) (here_of q word) x)) (sym next-list)
            ∙ l.chosen J pr;
      }
        where
          next-list : stops_of next ≡ s ∷ stops_of rest
          next-list = first.list ∙ ap (λ (x : ℕ). s ∷ stops_of x) (sym er)

          here-stop : List Filling
          here-stop = fillings_from p q (without s L) (done_of q word) (here_of q word ++ s ∷ [])

          sd : done_of q (word * 16 + s) ≡ done_of q word
          sd = stop-done m q L word c.here.at s in_left

          sh : here_of q (word * 16 + s) ≡ here_of q word ++ s ∷ []
          sh = stop-here m q L word c.here.at s in_left

          met-stop : met_from f q fewer (word * 16 + s) ≡ here-stop
          met-stop =
              ap (λ x. fillings_from p q x (done_of q (word * 16 + s)) (here_of q (word * 16 + s))) (taken-list left s fewer in_left ef)
              ∙ ap₂ (fillings_from p q (without s L)) sd sh

          plans-met : plans_met f q fewer (word * 16 + s) ≡ plans_from (plan_by f) p q (without s L) (done_of q word) (here_of q word ++ s ∷ [])
          plans-met =
              ap (λ x. plans_from (plan_by f) p q x (done_of q (word * 16 + s)) (here_of q (word * 16 + s))) (taken-list left s fewer in_left ef)
              ∙ ap₂ (plans_from (plan_by f) p q (without s L)) sd sh

          turned : met_on f q left word next ≡ here-stop ++ met_on f q left word rest
          turned =
              ap (fillings_at p q L (done_of q word) (here_of q word)) next-list ∙ at-stop p q L (done_of q word) (here_of q word) s (stops_of rest)
