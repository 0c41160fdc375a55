-- Laws of the plans that are read and written.
use Prim.Native.Nat.{ℕ, ◌+◌, ◌/◌, ◌%◌, ◌<◌, ◌≤◌}
use native.Mathlib.Omega.{arith}
use mathlib.Core.Path.{◌≡◌, refl, sym, ap, ◌∙◌, subst}
use mathlib.Core.Bool.{Bool, true}
use mathlib.Core.List.{List, [], ◌++◌}
use lib.Dec.{eqb}
use lib.ListN.{length, length-append}
use Rattle.model.specs.Lists.{member, position, count}
use Rattle.model.specs.Job.{Job}
use Rattle.model.specs.Plan.{Route, route_of, placed, encode, Lent}
use Rattle.model.specs.Plan as form
use Rattle.model.specs.TwoOpt.{set_route, turned, inter}
use Rattle.model.proofs.Lists.{member-count, count-member, count-append, position-lt}
use Rattle.model.proofs.Counts.{placed-routes, once-route, length-kept}
use Rattle.model.proofs.PlanForm.{lent_length, lent_placed, lent-moved}
use Rattle.model.proofs.Moves.{Moved, moved-routes, count-turned}
use Rattle.pasting.specs.Put.{put}
use Rattle.distance.specs.declared.tariff.Tariff.{Tariff}
use Rattle.solution.specs.declared.plan.Plan.{Plan}
use Rattle.solution.specs.Held.{numbers_of, routes, Holds, Becomes}
use Rattle.delivery.specs.Costs.{Ready}
use Rattle.delivery.specs.Held.{IsJobOf}
use Rattle.delivery.proofs.Ready.{drivable}
use Rattle.two_opt_candidates.specs.Pairs.{choice_of, chosen, pair_of, plan_at, least_pair}
use Rattle.two_opt_candidates.specs.Weighed.{Routes, found}
use Rattle.two_opt_inter.specs.Move.{OnTwoRoutes, TwoRoutes, NewRows}
use Rattle.two_opt_candidates.specs.declared.Best.{Best}
use Rattle.two_opt_candidates.specs.declared.Choice.{Choice}
use Rattle.two_opt_inter.proofs.Rows.{Front, front}
use Rattle.two_opt_candidates.proofs.Pairs.{pair-counts, length-turned, plan-old, inter-least}

-- two routes hold no more stops than the plan
pub two-few : (P : form.Plan) (a b : ℕ) → a < length P → b < length P → (a ≡ b → ⊥) → length (route_of P a) + length (route_of P b) ≤ placed P
two-few P a b ha hb ne = omega (arith, placed-routes a b [] [] P ha hb (λ e. ne (sym e)))

module _ {p : Plan} {a b : ℕ} (T : TwoRoutes p a b) where
  pub first_below : a < length (routes p)
  first_below = omega (arith, lent_length p.v p.n (numbers_of p) p.lent, T.first)

  pub second_below : b < length (routes p)
  second_below = omega (arith, lent_length p.v p.n (numbers_of p) p.lent, T.second)

  pub lent-few : length (route_of (routes p) a) + length (route_of (routes p) b) ≤ 64
  lent-few =
      omega (arith, two-few (routes p) a b first_below second_below T.apart, lent_placed p.v p.n (numbers_of p) p.lent, p.sizes.stops)

-- what the move is given
module _ (t : Tariff) {p : Plan} {a s b u : ℕ} (O : OnTwoRoutes p a s b u) where
  pub pair-routes : (ra rb : Route) → ra ≡ route_of (routes p) a → rb ≡ route_of (routes p) b → Routes a ra s b rb u
  pair-routes ra rb ea eb =
      rw (ea, eb)
      record {
        first = omega (arith, O.vehicles.first, p.sizes.vehicles);
        first_row = drivable t p a;
        first_once = once-route (routes p) a p.lent.once;
        first_stop = O.first;
        second = omega (arith, O.vehicles.second, p.sizes.vehicles);
        second_row = drivable t p b;
        second_once = once-route (routes p) b p.lent.once;
        second_stop = O.second;
        few = lent-few O.vehicles;
      }

pub pair_found : (t : Tariff) (P : form.Plan) (a s b u : ℕ) (ra rb : Route) (r : Best) → found r ≡ least_pair t.legs.table t.prices a ra s b rb u
    → ra ≡ route_of P a → rb ≡ route_of P b → r.code ≡ (least_pair t.legs.table t.prices a (route_of P a) s b (route_of P b) u).0
pair_found t P a s b u ra rb r e ea eb = rw (← ea, ← eb) (ap (λ (x : ℕ × ℕ). x.0) e)

-- ---- two new routes

module _ {p : Plan} {a b : ℕ} (T : TwoRoutes p a b) {ra rb : Route} {i j : ℕ} (N : NewRows p a ra i b rb j) where
  pub new-few : length ra + length rb ≤ 64
  new-few =
      let old : Route = route_of (routes p) a ++ route_of (routes p) b in
      let e : length (ra ++ rb) ≡ length old =
      length-kept (ra ++ rb) old (λ x. omega (arith, count-append x ra rb, count-append x (route_of (routes p) a) (route_of (routes p) b), N.same_stops x))
      in
      omega (arith, length-append ra rb, length-append (route_of (routes p) a) (route_of (routes p) b), lent-few T)

  -- the plan with them is lent
  pub new-lent : (code : ℕ) (x y : Route) → x ≡ (pair_of ra i rb j code).0 → y ≡ (pair_of ra i rb j code).1
      → Lent p.v p.n (encode p.n (set_route b y (set_route a x (routes p))))
  new-lent code x y ex ey =
      let counts : (z : ℕ) → count z x + count z y ≡ count z (route_of (routes p) a) + count z (route_of (routes p) b) =
      λ z. omega (arith, ap (count z) ex, ap (count z) ey, pair-counts ra i rb j code z, N.same_stops z)
      in
      let M : Moved (routes p) (set_route b y (set_route a x (routes p))) =
      moved-routes a b x y (routes p) (first_below T) (second_below T) (λ e. T.apart (sym e)) counts
      in
      lent-moved p.v p.n (numbers_of p) _ p.lent (M.routes ∙ lent_length p.v p.n (numbers_of p) p.lent) M.stops

-- a row that begins with a route of a choice
module _ (row : List ℕ) (m : ℕ) (ra : Route) (i : ℕ) (rb : Route) (j code : ℕ) {c : Choice} (e : c ≡ choice_of code i j) where
  pub front-first : Front row m (chosen ra rb c).0 → Front row m (pair_of ra i rb j code).0
  front-first f = rw e at f

  pub front-second : Front row m (chosen ra rb c).1 → Front row m (pair_of ra i rb j code).1
  front-second f = rw e at f

pub new-written : (v n a b : ℕ) (P : form.Plan) (q : Plan) (x y z w : Route) → Holds v n (set_route b y (set_route a x P)) q → x ≡ z → y ≡ w
    → Holds v n (set_route b w (set_route a z P)) q
new-written v n a b P q x y z w h ex ey = rw (← ex, ← ey) h

-- ---- two routes as they are turned

-- what is written of a route
pub turned-front : (row after : List ℕ) (t : Bool) (r : Route) → after ≡ put row 0 (turned t r) → Front after (length r) (turned t r)
turned-front row after t r e = front row after (turned t r) (length r) e (sym (length-turned t r))

member-turned : (s : ℕ) (t : Bool) (r : Route) → member s r ≡ true → member s (turned t r) ≡ true
member-turned s t r m = count-member s (turned t r) (omega (arith, member-count s r m, count-turned s t r))

module _ {p : Plan} {a s b u : ℕ} (O : OnTwoRoutes p a s b u) {ra rb : Route} (ea : ra ≡ route_of (routes p) a) (eb : rb ≡ route_of (routes p) b) where
  pub routes-short : (length ra ≤ 64) × (length rb ≤ 64)
  routes-short = omega (arith, ap length ea, ap length eb, lent-few O.vehicles)

  module _ (ta tb : Bool) {xa xb : Route} {i j : ℕ} (exa : xa ≡ turned ta ra) (exb : xb ≡ turned tb rb) (ei : i ≡ position s xa) (ej : j ≡ position u xb) where
    pub turned_rows : NewRows p a xa i b xb j
    turned_rows =
        let ha : member s ra ≡ true = rw ea O.first in
        let hb : member u rb ≡ true = rw eb O.second in
        record {
          first_at = rw (ei, exa) (position-lt s (turned ta ra) (member-turned s ta ra ha));
          second_at = rw (ej, exb) (position-lt u (turned tb rb) (member-turned u tb rb hb));
          same_stops = λ x. omega (
            arith,
            ap (count x) exa,
            ap (count x) exb,
            count-turned x ta ra,
            count-turned x tb rb,
            ap (count x) ea,
            ap (count x) eb,
          );
        }

pub turned-written : (v n : ℕ) (P : form.Plan) (q : Plan) (a s b u code : ℕ) {ra rb xa xb : Route} {i j : ℕ} → ra ≡ route_of P a → rb ≡ route_of P b
    → xa ≡ turned (eqb (code / 32 % 2) 1) ra → xb ≡ turned (eqb (code / 16 % 2) 1) rb → i ≡ position s xa → j ≡ position u xb
    → Holds v n (set_route b (pair_of xa i xb j code).1 (set_route a (pair_of xa i xb j code).0 P)) q → Holds v n (plan_at P a s b u code) q
turned-written v n P q a s b u code ea eb exa exb ei ej h = rw (← ea, ← eb, ← exa, ← exb, ← ei, ← ej) h

-- ---- the plan left

module _ (t : Tariff) {p : Plan} {a s b u : ℕ} (O : OnTwoRoutes p a s b u) (code : ℕ)
    (ec : code ≡ (least_pair t.legs.table t.prices a (route_of (routes p) a) s b (route_of (routes p) b) u).0) where
  -- what is left where the kept candidate is written
  pub left : (q : Plan) → Becomes p q (plan_at (routes p) a s b u code) → (J : Job) → IsJobOf J t p → Becomes p q (inter J (routes p) a s b u)
  left q h J F =
      let V = O.vehicles in
      let least = inter-least J t.legs.table p.v p.n t.prices F p.sizes (routes p) a s b u V.first V.second V.apart (lent_length p.v p.n (numbers_of p) p.lent) p.lent.below in
      subst (λ (P : form.Plan). Becomes p q P) (rw ec (sym least)) h

-- nothing is written where that is number 0
pub left-old : (p : Plan) (a s b u code : ℕ) → code ≡ 0 → Becomes p p (plan_at (routes p) a s b u code)
left-old p a s b u code e = record { vehicles = refl; stops = refl; form = p.lent.form ∙ rw (e, plan-old (routes p) a s b u) }
