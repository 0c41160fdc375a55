-- A plan into which a stop arrives: what is known of its cost, and of the choice for every job that fits the leg table.
use mathlib.Core.Path.{◌≡◌, refl, ap, ap₂, ◌∙◌}
use Prim.Native.Nat.{ℕ, ◌-◌, ◌≤◌, ◌<◌}
use native.Mathlib.Omega.{arith}
use mathlib.Core.Logic.{◌⊎◌, inl, inr}
use mathlib.Core.Bool.{Bool, true, false, cond}
use mathlib.Core.List.{List, [], ◌∷◌}
use lib.Dec.{ltb}
use lib.Ieee.{Float, binary64, sub}
use lib.ListN.{length}
use Rattle.std.specs.Prelude.{Option, Some, None}
use Rattle.model.specs.Lists.{concat, count}
use Rattle.model.specs.Whole.{whole, exact, amount, IsWhole}
use Rattle.model.specs.Job.{Job}
use Rattle.model.specs.Plan.{Route, route_of, is_placed, placed}
use Rattle.model.specs.Plan as form
use Rattle.model.specs.StopSet.{including}
use Rattle.model.specs.Cost.{missed_cost}
use Rattle.model.specs.Live.{live_count, live_cost, placing, placings, cheapest_or, arrived}
use Rattle.model.specs.TwoOpt.{cheapest_by}
use Rattle.model.proofs.Lists.{Tested, tested, one-other, count-absent}
use Rattle.model.proofs.Counts.{Below}
use Rattle.model.proofs.PlanForm.{lent_length}
use Rattle.model.proofs.Moves.{All}
use Rattle.model.proofs.Live.{Added, placings-added, arrived-cases, cheapest_by-keeps}
use Rattle.stop_set.proofs.Live.{arriving-absent, arriving-fewer}
use Rattle.whole.proofs.Laws.{sub-whole, amount-is}
use Rattle.distance.specs.declared.tariff.Tariff.{Tariff}
use Rattle.solution.specs.declared.Place.{Place}
use Rattle.solution.specs.declared.plan.Plan.{Plan}
use Rattle.solution.specs.Held.{numbers_of, routes, Becomes}
use Rattle.delivery.specs.Costs.{table_live}
use Rattle.delivery.specs.Held.{IsJobOf, IsLiveCost}
use Rattle.delivery.proofs.Laws.{missed-small, driving-small, lent-few}
use Rattle.delivery.proofs.Ready.{ready}
use Rattle.delivery.proofs.Live.{table_live-is, live_count-le, table-live}
use Rattle.arrival.specs.declared.Candidate.{Candidate}
use Rattle.arrival.specs.Arriving.{Arriving}
use Rattle.arrival.specs.Places.{Triable, plan_with, Cheapest}
use Rattle.arrival.proofs.Weighing.{missed-le, own-le}

-- ---- two weighings that agree on all plans choose the same

module _ (w u : form.Plan → ℕ) where
  abbrev Agree : form.Plan → Type 0
  Agree X = w X ≡ u X

  alike-by : (best : form.Plan) (Ps : List form.Plan) → Agree best → All Agree Ps → cheapest_by w best Ps ≡ cheapest_by u best Ps
  alike-by best [] e a = refl
  alike-by best (X ∷ Xs) e a =
      ap (λ (x : Bool). cheapest_by w (cond x X best) Xs) (ap₂ ltb a.0 e)
      ∙ alike-by (cond (ltb (u X) (u best)) X best) Xs (go (ltb (u X) (u best))) a.1
    where
      go : (x : Bool) → Agree (cond x X best)
      go true = a.0
      go false = e

  alike : (P : form.Plan) (Ps : List form.Plan) → Agree P → All Agree Ps → cheapest_or w P Ps ≡ cheapest_or u P Ps
  alike P [] e a = refl
  alike P (X ∷ Xs) e a =
      let same : cheapest_by w X Xs ≡ cheapest_by u X Xs = alike-by X Xs a.0 a.1 in
      let agree : Agree (cheapest_by w X Xs) = cheapest_by-keeps w Agree X Xs a.0 a.1 in
      ap₂ (λ (x : Bool) (B : form.Plan). cond x P B) (ap₂ ltb e (agree ∙ ap u same)) same

-- ---- the plan

module _ {p : Plan} {live s : ℕ} (A : Arriving p live s) where
  abbrev P : form.Plan
  P = routes p

  absent : count s (concat P) ≡ 0
  absent = arriving-absent p.n live P p.sizes.stops p.lent.below p.lent.once A.covers s A.below A.absent

  pub missing : is_placed s (routes p) ≡ false
  missing = count-absent s (concat P) absent

  -- a stop is missed that is live now
  pub fewer : placed (routes p) < live_count (including s live)
  fewer = arriving-fewer p.n live P p.sizes.stops p.lent.below p.lent.once A.covers s A.below A.absent

  -- with the stop put in, each stop is below n
  below : (x : ℕ) → 1 ≤ count x (s ∷ concat P) → x < p.n
  below x h = go (tested x s)
    where
      go : Tested x s → x < p.n
      go (inl q) = rw q.0 A.below
      go (inr q) = p.lent.below x (omega (arith, one-other x s q.0))

  pub as-many : length (routes p) ≡ p.v
  as-many = lent_length p.v p.n (numbers_of p) p.lent

  module _ (t : Tariff) where
    -- what a plan costs with the stop live
    abbrev weigh : form.Plan → ℕ
    weigh = table_live t.legs.table t.prices (including s live)

    pub plan-small : weigh P ≤ 4752000000000000
    plan-small =
        omega (
          arith,
          table_live-is t.legs.table t.prices (including s live) P,
          driving-small t.legs.table t.prices t.legs.lengths t.affordable 0 P (lent-few t.legs.table p.v p.n t.prices (numbers_of p) (ready t p)),
          missed-small t.prices t.affordable (live_count (including s live) - placed P) (omega (arith, live_count-le (including s live))),
        )

    -- the cost without the missed stop
    left-small : weigh P - missed_cost t.prices 1 ≤ exact
    left-small = omega (arith, plan-small)

    module _ (l : ℕ) (c : Float) (e : l ≡ including s live) (C : IsLiveCost t p l c) where
      pub plan-cost : c ≡ whole (table_live t.legs.table t.prices (including s live) (routes p))
      plan-cost = C.table ∙ ap (λ (m : ℕ). whole (table_live t.legs.table t.prices m P)) e

      pub plan-whole : IsWhole c
      plan-whole = (weigh P, omega (arith, plan-small), plan-cost)

      pub plan-amount : amount c ≡ table_live t.legs.table t.prices (including s live) (routes p)
      plan-amount = amount-is c (weigh P) (omega (arith, plan-small)) plan-cost

      module _ (m : Float) (M : m ≡ whole (missed_cost t.prices 1)) where
        left-whole : sub binary64 c m ≡ whole (weigh P - missed_cost t.prices 1)
        left-whole =
            ap₂ (sub binary64) plan-cost M
            ∙ sub-whole (weigh P) (missed_cost t.prices 1) (omega (arith, plan-small)) (omega (arith, missed-small t.prices t.affordable 1 (omega arith)))
            (missed-le t.legs.table t.prices (including s live) P fewer)

        pub left-amount : amount (sub binary64 c m) ≡ table_live t.legs.table t.prices (including s live) (routes p) - missed_cost t.prices 1
        left-amount = amount-is (sub binary64 c m) (weigh P - missed_cost t.prices 1) left-small left-whole

        -- so that the places of each route can be tried
        pub triable : (k : ℕ) (b : Float) → k < p.v → IsWhole b → Triable t p k (sub binary64 c m) s b
        triable k b h B =
            record {
              vehicle = h;
              stop = omega (arith, A.below, p.sizes.stops);
              left = (weigh P - missed_cost t.prices 1, left-small, left-whole);
              small = omega (arith, left-amount, plan-small);
              own = rw left-amount (own-le t.legs.table t.prices P k (omega (arith, as-many)) (including s live) fewer);
              best = B;
            }

    -- ---- the choice of a job

    module _ (J : Job) (F : IsJobOf J t p) where
      agree : (X : form.Plan) → length X ≤ p.v → Below p.n (concat X) → weigh X ≡ live_cost J (including s live) X
      agree X few N =
          table-live J t.legs.table p.v p.n t.prices F (including s live) X few N (λ x h. omega (arith, N x h, p.sizes.stops))

      agree-all : (Ps : List form.Plan) → All (Added s P) Ps → All (Agree weigh (live_cost J (including s live))) Ps
      agree-all [] a = tt
      agree-all (X ∷ Xs) a =
          (agree X (omega (arith, as-many, a.0.routes)) (λ x h. below x (omega (arith, a.0.stops x))), agree-all Xs a.1)

      arrived-is : cheapest_or weigh P (placings s P) ≡ arrived J live s P
      unfolding arrived
      arrived-is =
          alike weigh (live_cost J (including s live)) P (placings s P) (agree P (omega (arith, as-many)) p.lent.below)
          (agree-all (placings s P) (placings-added s P))

      arrived-cost : weigh (arrived J live s P) ≡ live_cost J (including s live) (arrived J live s P)
      arrived-cost = go (arrived-cases J live s P)
        where
          go : (arrived J live s P ≡ P) ⊎ Added s P (arrived J live s P) → weigh (arrived J live s P) ≡ live_cost J (including s live) (arrived J live s P)
          go (inl e) = rw e (agree P (omega (arith, as-many)) p.lent.below)
          go (inr a) = (agree-all (arrived J live s P ∷ []) (a, tt)).0

      -- ---- the plan that is left

      module _ (b : Candidate) (C : Cheapest (table_live t.legs.table t.prices (including s live)) s (routes p) b) where
        pub arrives : (next : Plan) → Becomes p next (plan_with s (routes p) b.place) → Becomes p next (arrived J live s (routes p))
        arrives next h = rw (C.plan ∙ arrived-is) at h

        pub arrives-at : b.cost ≡ whole (live_cost J (including s live) (arrived J live s (routes p)))
        arrives-at = C.cost ∙ ap whole (ap weigh arrived-is ∙ arrived-cost)

-- the plan that the code leaves, with no place for the stop and with one
pub kept : (p : Plan) (s : ℕ) (o : Option Place) → o ≡ None → Becomes p p (plan_with s (routes p) o)
kept p s o e = rw e (record { vehicles = refl; stops = refl; form = p.lent.form })

pub placed_at : (p next : Plan) (s : ℕ) (o : Option Place) (x : Place) → o ≡ Some x → Becomes p next (placing s (routes p) x.vehicle x.position)
    → Becomes p next (plan_with s (routes p) o)
placed_at p next s o x e h = rw e h
