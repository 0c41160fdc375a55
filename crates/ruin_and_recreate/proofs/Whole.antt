-- The rounds of the code are those of the definition, and so is what the run answers and leaves.
use mathlib.Core.Path.{◌≡◌, refl, sym, ap, ap₂, ◌∙◌}
use mathlib.Core.Bool.{Bool, true, false, not, ◌&&◌, ◌||◌, and-false}
use mathlib.Core.List.{List, []}
use Prim.Native.Nat.{ℕ, zero, suc, ◌+◌, ◌-◌, ◌≤◌, ◌<◌}
use native.Mathlib.Nat.{zero-add}
use native.Mathlib.Omega.{arith}
use lib.Dec.{leb, ltb}
use borrow.Author.Tests.{le-leb, lt-leb, ltb-true, ltb-false}
use lib.Ieee.{Float}
use lib.ListN.{length}
use Rattle.model.specs.declared.Totals.{Totals}
use Rattle.model.specs.Lists.{count, up_from}
use Rattle.model.specs.Whole.{whole}
use Rattle.model.specs.Job.{Job}
use Rattle.model.specs.declared.job.Settings.{Settings}
use Rattle.model.specs.Plan.{encode}
use Rattle.model.specs.Plan as form
use Rattle.model.specs.Legs.{Fits}
use Rattle.model.specs.Cost.{cost}
use Rattle.model.specs.Nearest.{start_plan}
use Rattle.model.specs.Settle.{no_averages, settles}
use Rattle.model.specs.Run.{Task, State, start_state, round_from, rounds, last_state, ends}
use Rattle.model.specs.Calls.{has_rounds, rounds_if, final_state, totals}
use Rattle.model.proofs.Runs.{start-goes, follows, counts}
use Rattle.distance.specs.declared.tariff.Tariff.{Tariff}
use Rattle.solution.specs.declared.plan.Plan.{Plan}
use Rattle.solution.specs.Held.{routes}
use Rattle.solution.proofs.Holding.{holds-routes}
use Rattle.delivery.specs.Held.{IsJobOf}
use Rattle.nearest_neighbor.specs.Answers.{Started}
use Rattle.nearest_neighbor.proofs.Turns.{start-routes}
use Rattle.run_round.proofs.Steps.{same-state, also}
use Rattle.run_round.specs.declared.Progress.{Progress}
use Rattle.run_round.specs.Standing.{state_of, CostOf, Course, Standing, Rounded}
use Rattle.ruin_and_recreate.specs.Runs.{task_by, Ended, Ran}

-- ---- what remains of the rounds

module _ (T : Task) where
  -- what the last of the rounds leaves that remain from s on, after so many
  abbrev remaining : ℕ → Bool → State → State
  remaining m stop s = last_state s (rounds m stop T s)

  none_left : (stop : Bool) (s : State) → remaining 0 stop s ≡ s
  unfolding rounds
  none_left stop s = refl

  none-settled : (m : ℕ) (s : State) → remaining m true s ≡ s
  unfolding rounds
  none-settled zero s = refl
  none-settled (suc m) s = refl

  one_more : (m : ℕ) (s : State) → remaining (suc m) false s ≡ remaining m (ends (round_from T s).end) (round_from T s).end
  unfolding rounds
  one_more m s = refl

  -- one of at most `limit` rounds, after `done` of them
  onward : (limit done m : ℕ) (s t : State) → done < limit → m ≡ done + 1 → t ≡ (round_from T s).end
      → remaining (limit - done) false s ≡ remaining (limit - m) (ends t) t
  onward limit done m s t h d e =
      let k : limit - done ≡ suc (limit - m) = omega arith in
      rw k (one_more (limit - m) s) ∙ ap (λ (u : State). remaining (limit - m) (ends u) u) (sym e)

-- ---- the start plan, and whether there are rounds

-- the start plan that the code makes
started-plan : (t : Tariff) (v n : ℕ) (plan : Plan) → Started t.legs.table v n plan → (J : Job) → Fits J t.legs.table v n t.prices → routes plan ≡ start_plan J
started-plan t v n plan S J F =
    holds-routes v n (start_plan J) plan (record { vehicles = S.vehicles; stops = S.stops; form = S.start J t.prices F }) (start-routes J ∙ F.vehicles)

-- it is one of its own sizes
pub started-itself : (table : List ℕ) (v n : ℕ) (plan : Plan) → Started table v n plan → Started table plan.v plan.n plan
started-itself table v n plan S =
    record {
      vehicles = refl;
      stops = refl;
      all = λ h s. S.all (omega (arith, S.vehicles)) s ∙ ap (λ (m : ℕ). count s (up_from 0 m)) (sym S.stops);
      start = λ J p F. S.start J p (rw (← S.vehicles, ← S.stops) F) ∙ ap (λ (m : ℕ). encode m (start_plan J)) (sym S.stops);
    }

has-rounds : (J : Job) (t : Tariff) (v n : ℕ) → Fits J t.legs.table v n t.prices → has_rounds J ≡ (leb 1 v && leb 2 n)
has-rounds J t v n F = ap₂ (λ (a b : ℕ). leb 1 a && leb 2 b) F.vehicles F.stops

pub no-vehicle : (v n : ℕ) → v ≡ 0 → (leb 1 v && leb 2 n) ≡ false
no-vehicle v n e = rw e

pub few-stops : (v n : ℕ) → ltb n 2 ≡ true → (leb 1 v && leb 2 n) ≡ false
few-stops v n h = rw (lt-leb 2 n (ltb-true n 2 h)) (and-false (leb 1 v))

pub some-rounds : (v n : ℕ) → (v ≡ 0 → ⊥) → ltb n 2 ≡ false → (leb 1 v && leb 2 n) ≡ true
some-rounds v n h k = rw (le-leb 1 v (omega arith), le-leb 2 n (ltb-false n 2 k))

-- ---- the loop

module _ (t : Tariff) (s : Settings) (first : Plan) where
  -- p and the plan stand within the run: what remains leads to what the whole run leaves
  pub record Within (plan : Plan) (p : Progress) : Type 0 where
    pub vehicles : plan.v ≡ first.v
    pub stops : plan.n ≡ first.n
    pub stands : Standing t plan p
    pub few : p.rounds ≤ s.limit
    pub goes : settles p.rounds p.averages ≡ false
    pub leads : (J : Job) → IsJobOf J t first → let T = task_by J s in
        remaining T (s.limit - p.rounds) false (state_of plan p) ≡ remaining T s.limit false (start_state T)

  pub begins : (p : Progress) → Started t.legs.table first.v first.n first → CostOf t first p.cost
      → p.averages ≡ no_averages → p.rounds ≡ 0 → p.improving ≡ 0 → p.place ≡ 0 → Within first p
  begins p S C a r i l =
      record {
        vehicles = refl;
        stops = refl;
        stands = record { costs = C; counted = omega arith; early = omega arith };
        few = omega arith;
        goes = ap₂ settles r a ∙ start-goes (task_by (record { vehicles = []; stops = []; locations = 0; distances = []; prices = t.prices }) s);
        leads =
            λ J F. let T = task_by J s in
            let m : s.limit - p.rounds ≡ s.limit = omega arith in
            rw m
            (ap (remaining T s.limit false) (same-state _ _ _ _ _ _ _ _ _ _ (started-plan t first.v first.n first S J F) a r i l));
      }

  module _ (plan : Plan) (p : Progress) where
    -- the course goes on
    pub courses : (near : List ℕ) → Course t first.n near s → Within plan p → Course t plan.n near s
    courses near K W = rw W.stops K

    pub cut : Within plan p → s.limit ≤ p.rounds → Ended t s first plan p
    cut W h = record {
      vehicles = W.vehicles;
      stops = W.stops;
      stands = W.stands;
      is = λ J F. let T = task_by J s in
          sym (none_left T false (state_of plan p))
          ∙ ap (λ (m : ℕ). remaining T m false (state_of plan p)) (omega arith)
          ∙ W.leads J F;
    }

    module _ (next : Plan) (r : Progress) (W : Within plan p) (R : Rounded t s plan p next r) (h : p.rounds < s.limit) where
      led : (J : Job) → IsJobOf J t first → let T = task_by J s in
          remaining T (s.limit - r.rounds) (settles r.rounds r.averages) (state_of next r) ≡ remaining T s.limit false (start_state T)
      led J F =
          sym (onward (task_by J s) s.limit p.rounds r.rounds (state_of plan p) (state_of next r) h R.rounds (R.is J s.limit (also J t first plan W.vehicles W.stops F))) ∙ W.leads J F

      pub settled : settles r.rounds r.averages ≡ true → Ended t s first next r
      settled e =
          record {
            vehicles = R.vehicles ∙ W.vehicles;
            stops = R.stops ∙ W.stops;
            stands = R.stands;
            is = λ J F. sym (none-settled (task_by J s) (s.limit - r.rounds) (state_of next r)) ∙ (rw e at (led J F));
          }

      pub goes_on : settles r.rounds r.averages ≡ false → Within next r
      goes_on e =
          record {
            vehicles = R.vehicles ∙ W.vehicles;
            stops = R.stops ∙ W.stops;
            stands = R.stands;
            few = omega (arith, R.rounds);
            goes = e;
            leads = λ J F. rw e at (led J F);
          }

-- ---- the answer

-- the answer where the Bool says that there are rounds
abbrev totals_if : Task → Bool → Totals
totals_if T some =
    let end = last_state (start_state T) (rounds_if some T) in
    record {
      start = whole (cost T.job (start_plan T.job));
      end = whole (cost T.job end.plan);
      rounds = length (rounds_if some T);
      improving = end.improving;
      settled = not some || ends end;
    }

totals-if : (T : Task) (some : Bool) → has_rounds T.job ≡ some → totals T ≡ totals_if T some
unfolding totals
totals-if T some e = ap (totals_if T) e

final-if : (T : Task) (some : Bool) → has_rounds T.job ≡ some → final_state T ≡ last_state (start_state T) (rounds_if some T)
final-if T some e = ap (λ (b : Bool). last_state (start_state T) (rounds_if b T)) e

same-totals : (a b x y : Float) (k l i j : ℕ) (s t : Bool) → a ≡ b → x ≡ y → k ≡ l → i ≡ j → s ≡ t
    → ◌≡◌ {A = Totals} (record { start = a; end = x; rounds = k; improving = i; settled = s }) (record { start = b; end = y; rounds = l; improving = j; settled = t })
same-totals a b x y k l i j s t p q m e z = rw (p, q, m, e, z)

module _ (t : Tariff) (v n : ℕ) (s : Settings) (first : Plan) (S : Started t.legs.table v n first) (start : Float) (C : CostOf t first start) where
  fits-first : (J : Job) → Fits J t.legs.table v n t.prices → IsJobOf J t first
  fits-first J F = rw (S.vehicles, S.stops) F

  start-cost : (J : Job) → Fits J t.legs.table v n t.prices → start ≡ whole (cost J (start_plan J))
  start-cost J F = C J (fits-first J F) ∙ ap (λ (P : form.Plan). whole (cost J P)) (started-plan t v n first S J F)

  -- no vehicle, or fewer than two stops
  pub ran-none : (leb 1 v && leb 2 n) ≡ false
      → Ran t v n s first (record { start = start; end = start; rounds = 0; improving = 0; settled = true })
  unfolding rounds_if
  ran-none e J F =
      let T = task_by J s in
      let none = has-rounds J t v n F ∙ e in (
        same-totals _ _ _ _ _ _ _ _ _ _ (start-cost J F) (start-cost J F) refl refl refl ∙ sym (totals-if T false none),
        record {
          vehicles = S.vehicles;
          stops = S.stops;
          form = S.start J t.prices F ∙ sym (ap (λ (x : State). encode n x.plan) (final-if T false none));
        },
      )

  module _ (plan : Plan) (r : Progress) (E : Ended t s first plan r) where
    pub sized : (plan.v ≡ v) × (plan.n ≡ n)
    sized = (E.vehicles ∙ S.vehicles, E.stops ∙ S.stops)

    pub ran-rounds : (done : Bool) → (leb 1 v && leb 2 n) ≡ true → done ≡ settles r.rounds r.averages
        → Ran t v n s plan (record { start = start; end = r.cost; rounds = r.rounds; improving = r.improving; settled = done })
    unfolding rounds_if
    ran-rounds done e d J F =
        let T = task_by J s in
        let some = has-rounds J t v n F ∙ e in
        let rs = rounds s.limit false T (start_state T) in
        let count = counts T (start_state T) rs (follows T s.limit false (start_state T)) ∙ zero-add (length rs) in
        let G = fits-first J F in
        let H = also J t first plan E.vehicles E.stops G in (
          same-totals _ _ _ _ _ _ _ _ _ _ (start-cost J F) (E.stands.costs J H ∙ ap (λ (x : State). whole (cost J x.plan)) (E.is J G))
              (ap (λ (x : State). x.done) (E.is J G) ∙ count) (ap (λ (x : State). x.improving) (E.is J G)) (d ∙ ap ends (E.is J G))
              ∙ sym (totals-if T true some),
          record {
            vehicles = sized.0;
            stops = sized.1;
            form = plan.lent.form ∙ ap₂ encode sized.1 (ap (λ (x : State). x.plan) (E.is J G ∙ sym (final-if T true some)));
          },
        )
