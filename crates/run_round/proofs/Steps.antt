-- A round of the code is the definition's, for every job that fits.
use mathlib.Core.Path.{◌≡◌, refl, sym, ap, ap₂, ◌∙◌}
use mathlib.Core.Bool.{Bool, true, false, cond}
use mathlib.Core.List.{List}
use Prim.Native.Nat.{ℕ, suc, ◌+◌, ◌-◌, ◌*◌, ◌%◌, ◌≤◌, ◌<◌}
use native.Mathlib.Nat.{mod-lt}
use native.Mathlib.Numerals.{add-one}
use native.Mathlib.Omega.{arith}
use lib.Dec.{ltb}
use lib.Ieee.{Float, lt}
use lib.ListN.{length, take, drop}
use Rattle.std.specs.Int.{from_bool}
use Rattle.model.specs.declared.Walk.{Walk}
use Rattle.model.specs.declared.Averages.{Averages}
use Rattle.model.specs.Lists.{Once}
use Rattle.model.specs.Whole.{whole, exact}
use Rattle.model.specs.Job.{Job, stop_count}
use Rattle.model.specs.Plan as form
use Rattle.model.specs.Cost.{cost}
use Rattle.model.specs.Nearest.{neighbours}
use Rattle.model.specs.TwoOpt.{two_opt_pass}
use Rattle.model.specs.Rebuild.{rebuild}
use Rattle.model.specs.Settle.{averaged}
use Rattle.model.specs.Run.{Task, State, drawn, round_from, task_for}
use Rattle.model.proofs.Moves.{two_opt_pass-moved}
use Rattle.model.proofs.Rebuilds.{rebuild-length}
use Rattle.model.proofs.PlanForm.{lent_length}
use Rattle.whole.proofs.Laws.{lt-whole}
use Rattle.distance.specs.declared.tariff.Tariff.{Tariff}
use Rattle.solution.specs.declared.plan.Plan.{Plan}
use Rattle.solution.specs.Held.{routes, Becomes}
use Rattle.solution.proofs.Holding.{holds-routes}
use Rattle.delivery.specs.Held.{IsJobOf}
use Rattle.delivery.proofs.Laws.{cost-exact}
use Rattle.nearest_neighbor.specs.Answers.{row_of}
use Rattle.nearest_neighbor.proofs.Filling.{row-once}
use Rattle.rebuild.specs.Leaves.{Leaves}
use Rattle.run_draws.specs.Picks.{picked_from, Picked}
use Rattle.run_draws.proofs.Picks.{picked_same}
use Rattle.model.specs.declared.job.Settings.{Settings}
use Rattle.run_round.specs.declared.Progress.{Progress}
use Rattle.run_round.specs.Standing.{Counted, state_of, Course, Standing, Rounded}

-- whether a round improves is seen in f64
pub improves-one : (b : Bool) (old new : Float) (m k : ℕ) → lt new old ≡ b → m ≤ exact → k ≤ exact → old ≡ whole m → new ≡ whole k
    → ◌≡◌ {A = ℕ} (cond b 1 0) (cond (ltb k m) 1 0)
improves-one b old new m k e M K p q =
    ap (λ (x : Bool). cond x 1 0) (sym e ∙ ap₂ lt q p ∙ lt-whole k m K M)

-- a test as a number
pub number_of : (b : Bool) → (from_bool b ≡ cond b 1 0) × (from_bool b ≤ 1)
number_of true = (refl, omega arith)
number_of false = (refl, omega arith)

-- ---- the definition, in the words of the code

-- the picks of the round from a state
abbrev picks_of : Task → State → List ℕ
picks_of T s = picked_from (stop_count T.job) (neighbours T.job) T.draws s.place

-- the plan that it leaves
abbrev plan_of : Task → State → form.Plan
plan_of T s = rebuild T.job (two_opt_pass T.job s.plan (drawn T.draws s.place % stop_count T.job)) (picks_of T s)

-- what it leaves, with a plan P
abbrev end_with : Task → State → form.Plan → ℕ → State
end_with T s P picks =
    record {
      plan = P;
      averages = averaged T.smoothing s.averages (cost T.job s.plan) (cost T.job P);
      done = suc s.done;
      improving = s.improving + cond (ltb (cost T.job P) (cost T.job s.plan)) 1 0;
      place = s.place + 3 + picks;
    }

round-ends : (T : Task) (s : State) → (round_from T s).end ≡ end_with T s (plan_of T s) (length (picks_of T s))
unfolding round_from picked_from
round-ends T s = refl

-- a state from its parts
pub same-state : (P Q : form.Plan) (a b : Averages) (d e i j x y : ℕ) → P ≡ Q → a ≡ b → d ≡ e → i ≡ j → x ≡ y
    → ◌≡◌ {A = State} (record { plan = P; averages = a; done = d; improving = i; place = x }) (record { plan = Q; averages = b; done = e; improving = j; place = y })
same-state P Q a b d e i j x y p q r s t = rw (p, q, r, s, t)

-- a job of a plan is one of each other of the same sizes
pub also : (J : Job) (t : Tariff) (q r : Plan) → r.v ≡ q.v → r.n ≡ q.n → IsJobOf J t q → IsJobOf J t r
also J t q r e f F = rw (e, f) F

-- the cost of a plan that is held
cost-small : (J : Job) (t : Tariff) (q : Plan) → IsJobOf J t q → cost J (routes q) ≤ exact
cost-small J t q F =
    omega (
      arith,
      cost-exact J t.legs.table q.v q.n t.prices F t.legs.lengths q.sizes t.affordable (routes q) (omega (arith, lent_length q.v q.n _ q.lent)) q.lent.once q.lent.below,
    )

module _ (J : Job) (t : Tariff) (near : List ℕ) (s : Settings) (old : Plan) (F : IsJobOf J t old) (K : Course t old.n near s) where
  -- A round: the pass takes the plan old to mid, the rebuild of the picks takes mid to new, and p becomes r.
  module _ (mid new : Plan) (picks : List ℕ) (worth : Float) (p r : Progress) (S : Standing t old p)
      (passes : Becomes old mid (two_opt_pass J (routes old) (drawn s.draws.now p.place % old.n)))
      (drawn-picks : picks ≡ picked_from old.n (λ x. row_of old.n x near) s.draws.now p.place)
      (rebuilds : Becomes mid new (rebuild J (routes mid) picks)) where
    same-picks : picks ≡ picked_from (stop_count J) (neighbours J) s.draws.now p.place
    same-picks =
        drawn-picks
        ∙ picked_same old.n (λ x. row_of old.n x near) (neighbours J) s.draws.now p.place
        ((K.rows _ (mod-lt (drawn s.draws.now (p.place + 2)) (omega (arith, K.several)))).ordered J old.v t.prices F)
        ∙ ap (λ (m : ℕ). picked_from m (neighbours J) s.draws.now p.place) (sym F.stops)

    passed : routes mid ≡ two_opt_pass J (routes old) (drawn s.draws.now p.place % old.n)
    passed =
        holds-routes old.v old.n _ mid passes
        ((two_opt_pass-moved J (routes old) (drawn s.draws.now p.place % old.n)).routes ∙ lent_length old.v old.n _ old.lent)

    rebuilt : routes new ≡ rebuild J (routes mid) picks
    rebuilt = holds-routes mid.v mid.n _ new rebuilds (rebuild-length J (routes mid) picks ∙ lent_length mid.v mid.n _ mid.lent)

    same-plan : routes new ≡ rebuild J (two_opt_pass J (routes old) (drawn s.draws.now p.place % stop_count J)) (picked_from (stop_count J) (neighbours J) s.draws.now p.place)
    same-plan =
        rebuilt
        ∙ ap₂ (rebuild J) (passed ∙ ap (λ (m : ℕ). two_opt_pass J (routes old) (drawn s.draws.now p.place % m)) (sym F.stops)) same-picks

    -- the state that the code leaves is the one that the definition leaves
    pub round-state : worth ≡ whole (cost J (routes new)) → Counted p worth (length picks) s.smoothing r → (limit : ℕ)
        → state_of new r ≡ (round_from (task_for J s.smoothing limit s.draws.now) (state_of old p)).end
    round-state weighed counted limit =
        let T = task_for J s.smoothing limit s.draws.now in
        let G = also J t old new (rebuilds.vehicles ∙ passes.vehicles) (rebuilds.stops ∙ passes.stops) F in
        let after = counted.is _ _ (cost-small J t old F) (cost-small J t new G) (S.costs J F) weighed in
        same-state _ _ _ _ _ _ _ _ _ _ refl after.0 (counted.rounds ∙ add-one p.rounds) after.1 counted.place
        ∙ ap₂ (end_with T (state_of old p)) same-plan (ap length same-picks)
        ∙ sym (round-ends T (state_of old p))

-- ---- a round of the code, whatever job fits

-- the part of the rows from which a stop's row is lent
pub part-row : (x n : ℕ) (near : List ℕ) → take (x * 64 + n - x * 64) (drop (x * 64) near) ≡ row_of n x near
part-row x n near = let e : x * 64 + n - x * 64 ≡ n = omega arith in rw e

-- the picks that a rebuild is lent
pub part-picks : (k : ℕ) (picks : List ℕ) → take (k - 0) picks ≡ take k picks
part-picks k picks = let e : k - 0 ≡ k = omega arith in rw e

module _ (t : Tariff) (n : ℕ) (near : List ℕ) (s : Settings) (K : Course t n near s) where
  pub row-lent : (x : ℕ) → x < n → Once (take (x * 64 + n - x * 64) (drop (x * 64) near))
  row-lent x h = rw (part-row x n near) (row-once t.legs.table n x near (K.rows x h))

module _ (t : Tariff) (near : List ℕ) (s : Settings) (old : Plan) (K : Course t old.n near s) where
  module _ (part blank picks ps : List ℕ) (mid new : Plan) (x k : ℕ) (walk : Walk) (p r : Progress) (S : Standing t old p) where
    pub rounded : x ≡ drawn s.draws.now p.place % old.n → x < old.n → part ≡ row_of old.n x near
        → ((J : Job) → IsJobOf J t old → (y : ℕ) → part ≡ neighbours J y → Becomes old mid (two_opt_pass J (routes old) y))
        → (mid.v ≡ old.v) × (mid.n ≡ old.n)
        → Picked near old.n s.draws.now p.place blank k picks → ps ≡ take k picks → Leaves t mid ps new walk → Counted p walk.cost k s.smoothing r
        → Rounded t s old p new r
    rounded ex hx er passes sizes picked e rebuilt counted =
        record {
          vehicles = rebuilt.vehicles ∙ sizes.0;
          stops = rebuilt.stops ∙ sizes.1;
          stands =
              record {
                costs = λ J F. counted.cost ∙ rebuilt.costs.job J F;
                counted = omega (arith, counted.one, counted.rounds, S.counted);
                early = omega (arith, counted.place, counted.rounds, S.early, picked.at_most);
              };
          rounds = counted.rounds;
          is =
              λ J limit F.
              let G = also J t old mid sizes.0 sizes.1 F in
              let H = also J t old new (rebuilt.vehicles ∙ sizes.0) (rebuilt.stops ∙ sizes.1) F in
              round-state J t near s old F K mid new ps walk.cost p r S (passed J F) (e ∙ picked.drawn) (rebuilt.plan J G) (rebuilt.costs.job J H)
              (rw (e, picked.long) counted) limit;
        }
      where
        passed : (J : Job) → IsJobOf J t old → Becomes old mid (two_opt_pass J (routes old) (drawn s.draws.now p.place % old.n))
        passed J F = passes J F _ (er ∙ (K.rows x hx).ordered J old.v t.prices F ∙ ap (neighbours J) ex)
