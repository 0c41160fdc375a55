-- The table of refusals is the order in which the calls make their tests.
use mathlib.Core.Path.{◌≡◌, refl, ap, sym, ◌∙◌}
use mathlib.Core.Bool.{Bool, true, false, cond, ◌||◌}
use mathlib.Core.List.{List, [], ◌∷◌}
use Prim.Native.Nat.{ℕ, zero, suc}
use Rattle.model.specs.declared.Prices.{Prices}
use Rattle.model.specs.declared.refusal.Refusal.{Refusal}
use Rattle.model.specs.Numbers.{number_of}
use Rattle.model.proofs.Numbers.{number-some}
use Rattle.model.specs.declared.Road.{Road}
use Rattle.model.specs.Job.{Job, job_of, vehicle_count, stop_count}
use Rattle.model.specs.Plan.{decode}
use Rattle.model.specs.Vans.{bad_vans, bad_move}
use Rattle.model.specs.declared.Move.{Move}
use Rattle.model.specs.Roads.{bad_road, bad_entry}
use Rattle.model.specs.Refusals.{Arguments, asking, naming, looking, moving, lengthening, stop_given, live_set, Weigh, StartPlan, TwoOpt, Rebuild, Exhaustive, Pruned, Solve, Arrive, Cancel, View, MoveStop, Roadworks, refusal, bad_vehicles, bad_stops, bad_table, bad_length, bad_seen, bad_lengths, bad_draws, bad_locations, bad_roads, bad_places, bad_distances, bad_entries, bad_legs, bad_prices, bad_plan, bad_live, bad_lent, bad_given, bad_arrival, bad_cancellation, too_large, unpriced}
use Rattle.call_refusals.specs.Order.{of_shape, of_entries, of_road, of_job, of_numbers, first}

-- 1 to 4, then the rest
shape-first : (b₁ b₂ b₃ b₄ : Bool) (r : ℕ) → cond b₁ 1 (cond b₂ 2 (cond b₃ 3 (cond b₄ 4 r))) ≡ first (cond b₁ 1 (cond b₂ 2 (cond b₃ 3 (cond b₄ 4 0)))) r
shape-first true b₂ b₃ b₄ r = refl
shape-first false true b₃ b₄ r = refl
shape-first false false true b₄ r = refl
shape-first false false false true r = refl
shape-first false false false false r = refl

-- 6 and 7, then the rest
entries-first : (b₆ b₇ : Bool) (r : ℕ) → cond b₆ 6 (cond b₇ 7 r) ≡ first (cond b₆ 6 (cond b₇ 7 0)) r
entries-first true b₇ r = refl
entries-first false true r = refl
entries-first false false r = refl

-- 11 and 12, then the rest
given-first : (b₁₁ b₁₂ : Bool) (r : ℕ) → cond b₁₁ 11 (cond b₁₂ 12 r) ≡ first (cond b₁₁ 11 (cond b₁₂ 12 0)) r
given-first true b₁₂ r = refl
given-first false true r = refl
given-first false false r = refl

-- one number for two conditions
either_first : (a b : Bool) (r : ℕ) → cond (a || b) 11 r ≡ first (cond b 11 0) (cond a 11 r)
either_first true true r = refl
either_first true false r = refl
either_first false true r = refl
either_first false false r = refl

-- the same with the second condition tested after the first
or-next : (a b : Bool) (k r : ℕ) → cond (a || b) k r ≡ cond a k (cond b k r)
or-next true b k r = refl
or-next false b k r = refl

-- one number, then the rest
one-first : (b : Bool) (k r : ℕ) → cond b (suc k) r ≡ first (cond b (suc k) 0) r
one-first true k r = refl
one-first false k r = refl

first-of : (a b c : ℕ) → first (first a b) c ≡ first a (first b c)
first-of zero b c = refl
first-of (suc a) b c = refl

first-none : (a : ℕ) → first a 0 ≡ a
first-none zero = refl
first-none (suc a) = refl

first_some : (a b : ℕ) → (a ≡ 0 → ⊥) → first a b ≡ a
first_some zero b h = absurd (h refl)
first_some (suc a) b h = refl

-- a refusal is the first, and after none comes the rest
pub said-first : (e : Refusal) (s r : ℕ) → number_of e ≡ s → number_of e ≡ first s r
said-first e s r h = h ∙ sym (first_some s r (λ z. number-some e (h ∙ z)))

pub passed_first : (s r y : ℕ) → 0 ≡ s → y ≡ r → y ≡ first s r
passed_first s r y e k = rw (← e) k

-- a test that was made, with its number
pub taken : (b t : Bool) (k r : ℕ) → t ≡ b → t ≡ true → k ≡ cond b k r
taken b t k r e h = rw (← e, h)

pub left : (b t : Bool) (k r y : ℕ) → t ≡ b → t ≡ false → y ≡ r → y ≡ cond b k r
left b t k r y e h z = rw (← e, h) z

module _ (A : Arguments) where
  abbrev pub shape_tests : ℕ
  shape_tests = of_shape A.job.vehicles A.job.stops A.job.locations A.job.distances A.plan

  abbrev pub entry_tests : ℕ
  entry_tests = of_entries A.job.vehicles A.job.stops A.job.locations A.job.distances

  abbrev pub job_tests : ℕ
  job_tests = of_job A.job.vehicles A.job.stops A.job.locations A.job.distances A.job.prices A.plan

-- 1 to 4, then what comes after, of the calls that write to no list but the plan
module _ (A : Arguments) (plain : A.seen ≡ []) where
  leading : (r : ℕ)
      → cond (bad_vehicles A.job.vehicles) 1
      (cond (bad_stops A.job.stops) 2 (cond (bad_table A.job.locations A.job.distances) 3 (cond (bad_lengths A) 4 r)))
      ≡ first (shape_tests A) r
  unfolding of_shape
  leading r =
      let v : ℕ = vehicle_count A.job in
      let n : ℕ = stop_count A.job in
      ap
      (λ (seen : List (List ℕ)). cond (bad_vehicles A.job.vehicles) 1
      (cond (bad_stops A.job.stops) 2
      (cond (bad_table A.job.locations A.job.distances) 3 (cond (bad_seen v n seen || bad_length v n A.plan) 4 r))))
      plain
      ∙ shape-first (bad_vehicles A.job.vehicles) (bad_stops A.job.stops) (bad_table A.job.locations A.job.distances)
      (bad_length (vehicle_count A.job) (stop_count A.job) A.plan) r

-- a call that writes to no list but the plan, and has no road
abbrev Plain : Arguments → Type 0
Plain A = ◌≡◌ {A = List (List ℕ) × List Road} (A.seen, A.roads) ([], [])

module _ (A : Arguments) (plain : Plain A) where
  -- 1 to 4, then what comes after
  shaped : (r : ℕ)
      → cond (bad_vehicles A.job.vehicles) 1
      (cond (bad_stops A.job.stops) 2 (cond (bad_table A.job.locations A.job.distances) 3 (cond (bad_lengths A) 4 r)))
      ≡ first (shape_tests A) r
  shaped r = leading A (ap (λ p. p.0) plain) r

  -- 6 and 7, then what comes after
  listed : (r : ℕ) → cond (bad_places A) 6 (cond (bad_legs A) 7 r) ≡ first (entry_tests A) r
  unfolding of_entries
  listed r =
      ap
      (λ (roads : List Road). cond (bad_roads A.job.locations roads || bad_locations A.job.vehicles A.job.stops A.job.locations) 6
      (cond (bad_entries A.job.locations A.job.distances roads || bad_distances A.job.distances) 7 r))
      (ap (λ p. p.1) plain)
      ∙ entries-first (bad_locations A.job.vehicles A.job.stops A.job.locations) (bad_distances A.job.distances) r

  -- 1 to 4 and 6 to 8, then what comes after
  priced : (r : ℕ) → first (shape_tests A) (first (entry_tests A) (cond (bad_prices A.job.prices) 8 r)) ≡ first (job_tests A) r
  unfolding of_job
  priced r =
      ap (λ (k : ℕ). first (shape_tests A) (first (entry_tests A) k)) (one-first (bad_prices A.job.prices) 7 r)
      ∙ ap (first (shape_tests A)) (sym (first-of (entry_tests A) _ r))
      ∙ sym (first-of (shape_tests A) _ r)

  pub start-order : refusal StartPlan A ≡ first (shape_tests A) (entry_tests A)
  unfolding refusal
  start-order = shaped _ ∙ ap (first (shape_tests A)) (listed 0 ∙ first-none (entry_tests A))

  pub weigh-order : refusal Weigh A ≡ first (job_tests A) (cond (bad_lent A) 11 0)
  unfolding refusal
  weigh-order = shaped _ ∙ ap (first (shape_tests A)) (listed _) ∙ priced _

  given-order : refusal Rebuild A ≡ first (job_tests A) (cond (bad_lent A) 11 (cond (bad_given (stop_count A.job) A.given) 12 0))
  unfolding refusal
  given-order = shaped _ ∙ ap (first (shape_tests A)) (listed _) ∙ priced _

  -- a test after 12
  given-then : (r : ℕ) → first (job_tests A) (cond (bad_lent A) 11 (cond (bad_given (stop_count A.job) A.given) 12 r)) ≡ first (refusal Rebuild A) r
  given-then r =
      ap (first (job_tests A)) (given-first (bad_lent A) (bad_given (stop_count A.job) A.given) r)
      ∙ sym (first-of (job_tests A) _ r)
      ∙ ap (λ (k : ℕ). first k r) (sym given-order)

  -- arrive and cancel make the tests of rebuild, then their own
  pub arrive-order : refusal Arrive A ≡ first (refusal Rebuild A) (cond (bad_arrival (live_set A) (stop_given A)) 16 0)
  unfolding refusal
  arrive-order = shaped _ ∙ ap (first (shape_tests A)) (listed _) ∙ priced _ ∙ given-then _

  pub cancel-order : refusal Cancel A ≡ first (refusal Rebuild A) (cond (bad_cancellation (live_set A) (stop_given A)) 17 0)
  unfolding refusal
  cancel-order = shaped _ ∙ ap (first (shape_tests A)) (listed _) ∙ priced _ ∙ given-then _

  -- two_opt makes the tests of rebuild, and pruned those of exhaustive
  pub two-opt-order : refusal Rebuild A ≡ refusal TwoOpt A
  unfolding refusal
  two-opt-order = refl

  pub exhaustive-order : refusal Exhaustive A ≡ first (job_tests A) (cond (too_large (vehicle_count A.job) (stop_count A.job)) 13 0)
  unfolding refusal
  exhaustive-order = shaped _ ∙ ap (first (shape_tests A)) (listed _) ∙ priced _

  pub pruned-order : refusal Exhaustive A ≡ refusal Pruned A
  unfolding refusal
  pruned-order = refl

  pub solve-order : refusal Solve A
      ≡ first (shape_tests A) (cond (bad_draws A.draws) 5 (first (entry_tests A) (of_numbers A.job.prices A.smoothing A.limit)))
  unfolding refusal of_numbers
  solve-order = shaped _ ∙ ap (λ (k : ℕ). first (shape_tests A) (cond (bad_draws A.draws) 5 k)) (listed _)

pub job-order : (vs ss : List ℕ) (l : ℕ) (ds : List ℕ) (p : Prices) (plan : List ℕ)
    → first (refusal StartPlan (asking (job_of vs ss l ds unpriced) plan [])) (cond (bad_prices p) 8 0) ≡ of_job vs ss l ds p plan
unfolding of_job
job-order vs ss l ds p plan =
    ap (λ (k : ℕ). first k (cond (bad_prices p) 8 0)) (start-order (asking (job_of vs ss l ds unpriced) plan []) refl)
    ∙ first-of (of_shape vs ss l ds plan) (of_entries vs ss l ds) _

pub rebuild-order : (J : Job) (plan given : List ℕ)
    → refusal Rebuild (asking J plan given) ≡ first (refusal Weigh (asking J plan [])) (cond (bad_given (stop_count J) given) 12 0)
rebuild-order J plan given =
    let A : Arguments = asking J plan [] in
    given-order (asking J plan given) refl
    ∙ ap (first (job_tests A)) (one-first (bad_plan (vehicle_count J) (stop_count J) plan) 10 _)
    ∙ sym (first-of (job_tests A) _ _)
    ∙ ap (λ (k : ℕ). first k (cond (bad_given (stop_count J) given) 12 0)) (sym (weigh-order A refl))

-- 11 of the plan, then of the live set
pub live-order : (J : Job) (plan : List ℕ) (live s : ℕ)
    → refusal Rebuild (naming J plan live s)
    ≡ first (refusal Weigh (asking J plan []))
    (cond (bad_live (vehicle_count J) (stop_count J) live plan) 11 (cond (bad_given (stop_count J) (s ∷ [])) 12 0))
live-order J plan live s =
    let A : Arguments = asking J plan [] in
    let bad : Bool = bad_live (vehicle_count J) (stop_count J) live plan in
    let stop : ℕ = cond (bad_given (stop_count J) (s ∷ [])) 12 0 in
    given-order (naming J plan live s) refl
    ∙ ap (first (job_tests A)) (either_first bad (bad_plan (vehicle_count J) (stop_count J) plan) stop)
    ∙ sym (first-of (job_tests A) _ _)
    ∙ ap (λ (k : ℕ). first k (cond bad 11 stop)) (sym (weigh-order A refl))

-- 15 of the set of vans, then of the move
pub move-order : (J : Job) (plan : List ℕ) (vans : ℕ) (m : Move)
    → refusal MoveStop (moving J plan vans m)
    ≡ first (refusal Rebuild (asking J plan (m.stop ∷ [])))
    (cond (bad_vans (vehicle_count J) vans) 15 (cond (bad_move vans m (decode (vehicle_count J) plan)) 15 0))
unfolding refusal
move-order J plan vans m =
    let A : Arguments = moving J plan vans m in
    shaped A refl _
    ∙ ap (first (shape_tests A)) (listed A refl _)
    ∙ priced A refl _
    ∙ given-then A refl _
    ∙ ap (first (refusal Rebuild A)) (or-next (bad_vans (vehicle_count J) vans) (bad_move vans m (decode (vehicle_count J) plan)) 15 0)

-- 4 of the list that a view is written to, then of the plan
pub view-order : (J : Job) (plan : List ℕ) (vans : ℕ) (seen : List ℕ)
    → refusal View (looking J plan vans seen)
    ≡ cond (bad_vehicles J.vehicles) 1
    (cond (bad_stops J.stops) 2
    (cond (bad_length (vehicle_count J) (stop_count J) seen) 4
    (cond (bad_length (vehicle_count J) (stop_count J) plan) 4
    (cond (bad_plan (vehicle_count J) (stop_count J) plan) 11 (cond (bad_vans (vehicle_count J) vans) 15 0)))))
unfolding refusal
view-order J plan vans seen =
    let v : ℕ = vehicle_count J in
    let n : ℕ = stop_count J in
    ap (λ (k : ℕ). cond (bad_vehicles J.vehicles) 1 (cond (bad_stops J.stops) 2 k))
    (or-next (bad_length v n seen) (bad_length v n plan) 4 _
    ∙ ap (λ (k : ℕ). cond (bad_length v n seen) 4 (cond (bad_length v n plan) 4 (cond (bad_plan v n plan) 11 k))) (or-next (bad_vans v vans) false 15 0))

-- 6 and 7, of a road and of the lists, then the rest
road-first : (a b c d : Bool) (r : ℕ)
    → cond (a || b) 6 (cond (c || d) 7 r) ≡ first (cond a 6 (first (cond b 6 (cond d 7 0)) (cond c 7 0))) r
road-first true b c d r = refl
road-first false true c d r = refl
road-first false false true true r = refl
road-first false false true false r = refl
road-first false false false true r = refl
road-first false false false false r = refl

pub road-order : (J : Job) (plan : List ℕ) (road : Road)
    → refusal Roadworks (lengthening J plan road)
    ≡ first (of_shape J.vehicles J.stops J.locations J.distances plan)
    (first (of_road J.vehicles J.stops J.locations J.distances road)
    (cond (bad_prices J.prices) 8 (cond (bad_plan (vehicle_count J) (stop_count J) plan) 11 0)))
unfolding refusal of_road of_entries
road-order J plan road =
    let A : Arguments = lengthening J plan road in
    leading A refl _
    ∙ ap (first (shape_tests A))
    (road-first (bad_road J.locations road) (bad_locations J.vehicles J.stops J.locations) (bad_entry J.locations J.distances road)
    (bad_distances J.distances) _)
