-- The table of ways of a framed plan: what is asked to fill it, and what it tells when it is filled.
use mathlib.Core.Path.{◌≡◌, refl, sym, ap, ap₂, ◌∙◌, subst}
use Prim.Native.Nat.{ℕ, zero, suc, ◌+◌, ◌-◌, ◌≤◌, ◌<◌}
use native.Mathlib.Omega.{arith}
use native.Mathlib.Decide.{dec_lt}
use mathlib.Core.List.{List, [], ◌∷◌, ◌++◌}
use lib.Ieee.{Float}
use lib.ListN.{length, get_or, take, drop, replicate, length-append, length-drop}
use lib.Seq.{length-take-le, get_or-drop, get_or-take}
use Rattle.model.specs.declared.Prices.{Prices}
use Rattle.model.specs.declared.Region.{Region}
use Rattle.model.specs.Whole.{exact}
use Rattle.model.specs.Plan.{Plan, Route, route_of}
use Rattle.model.specs.Region.{drained}
use Rattle.model.specs.Legs.{depot, Affordable}
use Rattle.model.specs.Cost.{price, cost}
use Rattle.distance.proofs.Laws.{way-small}
use Rattle.distance.specs.declared.tariff.Tariff.{Tariff}
use Rattle.solution.specs.declared.plan.Plan as held
use Rattle.solution.specs.Held.{routes}
use Rattle.delivery.specs.Costs.{table_cost}
use Rattle.rebuild_words.specs.Gaps.{no_region}
use Rattle.rebuild_survey.specs.declared.Gap.{Gap}
use Rattle.rebuild_survey.specs.Surveys.{head_of, rest_of, gap_at, Surveyed, Unsurveyed}
use Rattle.rebuild_survey.proofs.Surveys.{turn}
use Rattle.rebuild_fillings.specs.Walk.{Filling, stop_at, plan_at}
use Rattle.rebuild_fillings.specs.Rows.{Full}
use Rattle.rebuild_tables.specs.declared.frame.Frame.{Frame}
use Rattle.rebuild_tables.specs.Frame.{gap_count, drained_count, framed_plan, framed_regions, plan_by, Framing}
use Rattle.rebuild_ways.specs.declared.Ways.{Ways}
use Rattle.rebuild_ways.specs.Ways.{vacant_at, prices_at}
use Rattle.rebuild_tables.specs.Ways.{route_by, cost_by}
use Rattle.rebuild_ways.specs.Table.{Fillable, Filled}
use Rattle.rebuild_tables.specs.Table.{stops_from, Grounded}
use Rattle.rebuild_tables.specs.Walks.{FullIn}
use Rattle.rebuild_tables.proofs.Frames.{drained-many}
use Rattle.rebuild_tables.proofs.Costs.{measured-way, cost-by, short-by, small_by, job-by}
use Rattle.rebuild_arrange.specs.Prepared.{Based, Endable, EndsOf, Tableable, Tells}

-- ---- the frame of a plan

module _ (plan : held.Plan) (regions : List Region) (f : Frame) (F : Framing plan regions f) where
  pub same-plan : framed_plan f ≡ routes plan
  same-plan = ap routes F.same

  pub same-regions : framed_regions f ≡ regions
  same-regions = F.spans

  pub same-gaps : gap_count f ≡ length regions
  same-gaps = f.framed.gaps ∙ ap length same-regions

  same-stops : drained (framed_plan f) (framed_regions f) ≡ stops_from plan regions
  same-stops = ap₂ drained same-plan same-regions

  pub same-drained : drained_count f ≡ length (stops_from plan regions)
  same-drained = drained-many f ∙ ap length same-stops

  -- the drained stops stand in the frame
  stop-at : (i : ℕ) → 1 ≤ i → i ≤ length (stops_from plan regions) → get_or f.listed i 0 ≡ stop_at (stops_from plan regions) i
  stop-at i a b =
      let h : i - 1 < drained_count f = omega (arith, same-drained) in
      let k : 1 + (i - 1) ≡ i = omega arith in
      sym (ap (λ (l : List ℕ). get_or l (i - 1) 0) (sym (f.framed.stops ∙ same-stops))
      ∙ get_or-take (drained_count f) (drop 1 f.listed) (i - 1) 0 h ∙ get_or-drop 1 f.listed (i - 1) 0 ∙ ap (λ (j : ℕ). get_or f.listed j 0) k)

-- ---- the gaps that were measured

-- where nothing is measured
abbrev pub no_gap : Gap
no_gap = record { before = 0; after = 0; head = 0; rest = 0 }

no-gaps : (k i : ℕ) → get_or (replicate k no_gap) i no_gap ≡ no_gap
no-gaps zero i = refl
no-gaps (suc k) zero = refl
no-gaps (suc k) (suc i) = no-gaps k i

-- past those that were measured
past-gaps : (k b : ℕ) (gaps : List Gap) → drop k gaps ≡ drop k (replicate b no_gap) → (i : ℕ) → k ≤ i → gap_at gaps i ≡ no_gap
past-gaps k b gaps e i h =
    let j : k + (i - k) ≡ i = omega arith in
    ap (λ (x : ℕ). gap_at gaps x) (sym j)
    ∙ sym (get_or-drop k gaps (i - k) no_gap)
    ∙ ap (λ (l : List Gap). gap_at l (i - k)) e
    ∙ get_or-drop k (replicate b no_gap) (i - k) no_gap
    ∙ no-gaps b (k + (i - k))

-- the places of three gaps, one after another
abbrev pub three : (Gap → ℕ) → List Gap → List ℕ
three g gaps = g (gap_at gaps 0) ∷ g (gap_at gaps 1) ∷ g (gap_at gaps 2) ∷ []

three-at : (g : Gap → ℕ) (gaps : List Gap) (q : ℕ) → q < 3 → get_or (three g gaps) q 0 ≡ g (gap_at gaps q)
three-at g gaps zero h = refl
three-at g gaps (suc zero) h = refl
three-at g gaps (suc (suc zero)) h = refl
three-at g gaps (suc (suc (suc q))) h = absurd (omega arith)

module _ (tariff : Tariff) (plan : held.Plan) (regions : List Region) (f : Frame) (c : Float) (T : Tableable tariff plan regions f c)
    (gaps : List Gap) (S : Surveyed tariff.legs plan regions gaps) (U : Unsurveyed regions (replicate 3 no_gap) gaps) where
  abbrev t : List ℕ
  t = tariff.legs.table

  abbrev P : Plan
  P = routes plan

  abbrev gs : List Region
  gs = regions

  -- both ways along a gap's route make no more than the route with the gap empty
  gap-short : (q : ℕ) → q < length gs → head_of gaps q + rest_of gaps q ≤ 13000000
  gap-short q h =
      let g : Region = get_or regions q no_region in
      let k : ℕ = g.vehicle in
      let r : Route = route_of P k in
      let u = turn plan regions T.plan.gapped q h in
      omega (
        arith,
        measured-way t k r g.from g.to (gap_at gaps q) (S q h) [],
        way-small t tariff.legs.lengths (depot k) (take g.from r ++ drop g.to r) (depot k),
        length-append (take g.from r) (drop g.to r),
        length-take-le g.from r (omega (arith, u.ordered, u.within)),
        length-drop g.to r,
        u.ordered,
        u.within,
        u.drivable.few,
      )

  beside-small : (q : ℕ) → Dec (q < length gs) → ((gap_at gaps q).before < 80) × ((gap_at gaps q).after < 80)
  beside-small q (yes l) = (S q l).near
  beside-small q (no l) = rw (past-gaps (length gs) 3 gaps U q (omega arith)) (omega arith, omega arith)

  pub starts-near : Endable f (three (λ g. g.before) gaps)
  starts-near = record {
    stops = λ i. omega (arith, T.near i);
    gaps = λ q h. rw (three-at (λ g. g.before) gaps q h) (beside-small q (dec_lt q (length gs))).0;
  }

  pub ends-near : Endable f (three (λ g. g.after) gaps)
  ends-near = record {
    stops = λ i. omega (arith, T.near i);
    gaps = λ q h. rw (three-at (λ g. g.after) gaps q h) (beside-small q (dec_lt q (length gs))).1;
  }

  -- ---- the table

  module _ (starts ends : List ℕ) (Es : EndsOf f (three (λ g. g.before) gaps) starts) (Ee : EndsOf f (three (λ g. g.after) gaps) ends) (base : Float) (B : Based tariff plan regions base)
      (k : ℕ) (ek : k ≡ length regions) where
    all-gaps : k ≡ length gs
    all-gaps = ek

    pub fillable : Fillable starts ends gaps k base
    fillable = record {
      from = Es.small;
      to = Ee.small;
      few = omega (arith, all-gaps, T.plan.gapped.few);
      short = λ q h. gap-short q (omega (arith, all-gaps));
      known = B.known;
    }

    module _ (ways : Ways) (W : Filled tariff starts ends gaps k base ways) where
      grounded : Grounded tariff plan regions gaps starts ends base ways
      grounded = record {
        gapped = T.plan.gapped;
        surveyed = S;
        few = T.plan.few;
        leaving = λ i a b. Es.stops i a (omega (arith, T.plan.few)) ∙ stop-at plan regions f T.framing i a b;
        reaching = λ i a b. Ee.stops i a (omega (arith, T.plan.few)) ∙ stop-at plan regions f T.framing i a b;
        before = λ q h. let l : q < 3 = omega (arith, T.plan.gapped.few) in Es.gaps q l ∙ three-at (λ g. g.before) gaps q l;
        after = λ q h. let l : q < 3 = omega (arith, T.plan.gapped.few) in Ee.gaps q l ∙ three-at (λ g. g.after) gaps q l;
        rest = B.rest;
        filled = subst (λ (j : ℕ). Filled tariff starts ends gaps j base ways) all-gaps W;
      }

      -- a filling of the frame fills the regions
      full : (fill : Filling) → FullIn f fill → Full (length gs) (length (stops_from plan regions)) fill
      full fill F = subst (λ (m : ℕ). Full (length gs) m fill) (same-drained plan regions f T.framing)
          (subst (λ (j : ℕ). Full j (drained_count f) fill) (same-gaps plan regions f T.framing) F)

      same_by : (fill : Filling) → plan_by f fill ≡ plan_at P gs fill
      same_by fill = ap₂ (λ (X : Plan) (hs : List Region). plan_at X hs fill) (same-plan plan regions f T.framing) (same-regions plan regions f T.framing)

      same-cost : (fill : Filling) → cost_by ways (drained_count f) fill ≡ cost_by ways (length (stops_from plan regions)) fill
      same-cost fill = ap (λ (m : ℕ). cost_by ways m fill) (same-drained plan regions f T.framing)

      vacant-route : (q : ℕ) → q < k → vacant_at ways q ≡ price (prices_at ways) (route_by ways q [])
      unfolding route_by
      vacant-route q h = W.vacant q h ∙ ap (λ (x : Prices). price x (route_by ways q [])) (sym W.priced)

      short : (fill : Filling) → FullIn f fill → (q : ℕ) → q < gap_count f → route_by ways q (get_or fill q []) ≤ 16000000
      short fill F q h =
          short-by tariff plan regions gaps starts ends base ways grounded fill (full fill F) q (omega (arith, same-gaps plan regions f T.framing))

      small : (fill : Filling) → FullIn f fill → cost_by ways (drained_count f) fill ≤ exact
      small fill F = omega (arith, same-cost fill, small_by tariff plan regions gaps starts ends base ways grounded fill (full fill F))

      pub tells : Tells tariff plan f ways
      tells = record {
        tabled = record {
          prices = subst Affordable (sym W.priced) tariff.affordable;
          vacant = λ q h. vacant-route q (omega (arith, all-gaps, same-gaps plan regions f T.framing));
          short = short;
          small = small;
        };
        prices = W.priced;
        costs = λ fill F.
            same-cost fill ∙ cost-by tariff plan regions gaps starts ends base ways grounded fill (full fill F) ∙ ap (table_cost t tariff.prices plan.n) (sym (same_by fill));
        priced = λ J fits. record {
          total = fits.stops ∙ ap (λ (p : held.Plan). p.n) (sym T.framing.same);
          each = λ fill F.
              ap (cost J) (same_by fill) ∙ job-by tariff plan regions gaps starts ends base ways grounded fill (full fill F) J fits ∙ sym (same-cost fill);
        };
      }
