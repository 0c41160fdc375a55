-- What an arrangement costs by a table of ways is what its plan costs.
use mathlib.Core.Path.{◌≡◌, refl, sym, ap, ap₂, ◌∙◌, subst}
use Prim.Native.Nat.{ℕ, suc, ◌+◌, ◌-◌, ◌≤◌, ◌<◌}
use native.Mathlib.Nat.{zero-add, add-mul}
use native.Mathlib.Omega.{arith}
use mathlib.Core.List.{List, [], ◌∷◌, ◌++◌, map}
use lib.Ieee.{Float}
use lib.ListN.{length, get_or, take, drop, length-map, get_or-map}
use Rattle.model.specs.declared.Prices.{Prices}
use Rattle.model.specs.declared.Region.{Region}
use Rattle.model.specs.Whole.{exact}
use Rattle.model.specs.Job.{Job}
use Rattle.model.specs.Lists.{concat, count, up_from}
use Rattle.model.specs.Plan.{Plan, Route, route_of, placed}
use Rattle.model.specs.Region.{Stretches}
use Rattle.model.specs.Rebuild.{replaced}
use Rattle.model.specs.Legs.{leg_at, depot}
use Rattle.model.specs.Cost.{price, missed_cost, cost}
use Rattle.model.proofs.Lists.{one_same}
use Rattle.model.proofs.Counts.{count-route, length-le}
use Rattle.model.proofs.Members.{count-in}
use Rattle.model.proofs.Cost.{missed_cost-is}
use Rattle.model.proofs.PlanForm.{lent_length, lent_placed}
use Rattle.model.proofs.Regions.{first-stretch, later-stretches}
use Rattle.model.proofs.Arrangements.{spliced, length-replaced, replaced-other}
use Rattle.distance.specs.Ways.{table_legs, walked, last_place}
use Rattle.distance.proofs.Laws.{way-append, way-last, way-small}
use Rattle.rebuild_survey.specs.declared.Gap.{Gap}
use Rattle.rebuild_survey.specs.Ways.{Measured}
use Rattle.rebuild_survey.specs.Surveys.{before_of, after_of, gap_at}
use Rattle.rebuild_survey.proofs.Ways.{way-on}
use Rattle.distance.specs.declared.tariff.Tariff.{Tariff}
use Rattle.solution.specs.declared.plan.Plan as held
use Rattle.solution.specs.Held.{routes}
use Rattle.delivery.specs.Held.{IsJobOf}
use Rattle.delivery.specs.Costs.{table_price, table_driving, table_cost}
use Rattle.delivery.proofs.Driving.{table-change}
use Rattle.delivery.proofs.Laws.{cost-small, table-cost}
use Rattle.rebuild_words.specs.Gaps.{no_region}
use Rattle.rebuild_words.proofs.Plans.{vehicle_at, spliced_at, replaced-route}
use Rattle.rebuild_fillings.specs.Walk.{Filling, stop_at, named, plan_at}
use Rattle.rebuild_fillings.specs.Rows.{Full}
use Rattle.rebuild_fillings.proofs.Places.{in-up_from}
use Rattle.rebuild_ways.specs.declared.Ways.{Ways}
use Rattle.rebuild_ways.specs.Ways.{way_at, prices_at}
use Rattle.rebuild_tables.specs.Ways.{way_by, route_by, driven_by, cost_by}
use Rattle.rebuild_tables.specs.Table.{gap_driving, stops_from, Grounded}
use Rattle.rebuild_tables.proofs.Plans.{plan-wide, plan-placed, plan-below}

-- so many missed and so many more
missed-sum : (p : Prices) (a b : ℕ) → missed_cost p (a + b) ≡ missed_cost p a + missed_cost p b
missed-sum p a b = rw (missed_cost-is p (a + b), missed_cost-is p a, missed_cost-is p b, add-mul)

-- ---- a route with a gap

-- what is in the gap lies between the place before it and the place after it
pub measured-way : (t : List ℕ) (k : ℕ) (r : Route) (from to : ℕ) (g : Gap) → Measured t k r from to g → (y : Route)
    → table_legs t (depot k) (take from r ++ (y ++ drop to r)) (depot k) ≡ g.head + g.rest + table_legs t g.before y g.after
measured-way t k r from to g M y =
    let d : ℕ = depot k in
    let a : ℕ = last_place d (take from r) in
    let e : table_legs t g.before y g.after ≡ walked t a y + leg_at t (last_place a y) g.after =
    way-last t g.before y g.after ∙ ap (λ (b : ℕ). walked t b y + leg_at t (last_place b y) g.after) M.before
    in
    omega (
      arith,
      e,
      way-append t d (take from r) (y ++ drop to r) d,
      way-append t a y (drop to r) d,
      way-on t (last_place a y) (drop to r) d,
      ap (leg_at t (last_place a y)) M.after,
      M.head,
      M.rest,
    )

-- ---- the routes that regions are on

-- what they cost with other sequences in the regions; the first of them is gap q of the table
module _ (t : List ℕ) (ways : Ways) (P : Plan) (f : ℕ → ℕ) where
  driven-from : (gs : List Region) (fill : Filling) (q : ℕ) → Stretches P gs → length fill ≡ length gs
      → ((j i : ℕ) → i ≡ q + j → j < length gs
      → route_by ways i (get_or fill j [])
      ≡ table_legs t (depot (vehicle_at gs no_region j)) (spliced_at P no_region gs j (map f (get_or fill j []))) (depot (vehicle_at gs no_region j)))
      → table_driving t (prices_at ways) 0 (replaced P gs (map (map f) fill)) + gap_driving t (prices_at ways) P gs
      ≡ table_driving t (prices_at ways) 0 P + driven_by ways q fill
  unfolding gap_driving driven_by
  driven-from [] [] q st e h = refl
  driven-from [] (x ∷ fill) q st e h = absurd (omega arith)
  driven-from (g ∷ gs) [] q st e h = absurd (omega arith)
  driven-from (g ∷ gs) (x ∷ fill) q st e h =
      let Q : Plan = replaced P gs (map (map f) fill) in
      let k : ℕ = g.vehicle in
      let y : Route = map f x in
      let same : route_of Q k ≡ route_of P k = replaced-other P gs (map (map f) fill) k st.apart.0 in
      let c = table-change t (prices_at ways) k (spliced g y) Q (rw length-replaced (first-stretch st).known) in
      let i = driven-from gs fill (suc q) (later-stretches st) (omega arith) (λ j i r l. h (suc j) i (omega arith) (omega arith)) in
      let w : route_by ways q x ≡ table_legs t (depot k) (spliced g y (route_of P k)) (depot k) = h 0 q (omega arith) (omega arith) in
      omega (
        arith,
        c,
        i,
        ap (table_price t (prices_at ways) k) same,
        ap (λ (r : Route). table_price t (prices_at ways) k (spliced g y r)) same,
        ap (price (prices_at ways)) w,
      )

-- every number of a list is a place from 1 to m
abbrev pub PlacesTo : ℕ → List ℕ → Type 0
PlacesTo m x = (i : ℕ) → 1 ≤ count i x → (1 ≤ i) × (i ≤ m)

module _ (tariff : Tariff) (plan : held.Plan) (regions : List Region) (gaps : List Gap) (starts ends : List ℕ) (base : Float) (ways : Ways)
    (G : Grounded tariff plan regions gaps starts ends base ways) where
  abbrev t : List ℕ
  t = tariff.legs.table

  abbrev p : Prices
  p = tariff.prices

  abbrev n : ℕ
  n = plan.n

  abbrev P : Plan
  P = routes plan

  abbrev gs : List Region
  gs = regions

  abbrev stops : List ℕ
  stops = stops_from plan regions

  abbrev m : ℕ
  m = length (stops_from plan regions)

  -- ---- ways

  leg-by : (r s : ℕ) → r < 11 → 1 ≤ s → s ≤ m → way_at ways r s ≡ leg_at t (get_or starts r 0) (stop_at stops s)
  leg-by r s h a b = G.filled.rows r s h (omega (arith, G.few)) ∙ ap (leg_at t (get_or starts r 0)) (G.reaching s a b)

  pub way-by : (x : List ℕ) → PlacesTo m x → (r c : ℕ) → r < 11 → c < 11
      → way_by ways r x c ≡ table_legs t (get_or starts r 0) (map (stop_at stops) x) (get_or ends c 0)
  unfolding way_by table_legs
  way-by [] f r c h k = G.filled.rows r c h k
  way-by (s ∷ x) f r c h k =
      let a = f s (omega (arith, one_same s s refl)) in
      let i = way-by x (λ i g. f i (omega arith)) s c (omega (arith, G.few)) k in
      let e = G.leaving s a.0 a.1 in
      ap₂ ◌+◌ (leg-by r s h a.0 a.1) (i ∙ ap (λ (b : ℕ). table_legs t b (map (stop_at stops) x) (get_or ends c 0)) e)

  -- ---- the routes of the gaps

  module _ (fill : Filling) (F : Full (length gs) m fill) where
    abbrev X : Plan
    X = plan_at P gs fill

    -- every number in a gap is a place
    fill-places : (q : ℕ) → PlacesTo m (get_or fill q [])
    fill-places q i h =
        let r = in-up_from i 1 m (count-in i (up_from 1 m) (omega (arith, F.each i, count-route i fill q))) in
        omega arith

    -- the route with what fills its gap
    spliced-by : (q : ℕ) → q < length gs
        → route_by ways q (get_or fill q [])
        ≡ table_legs t (depot (vehicle_at gs no_region q)) (spliced_at P no_region gs q (map (stop_at stops) (get_or fill q []))) (depot (vehicle_at gs no_region q))
    unfolding route_by
    spliced-by q h =
        let y : Route = map (stop_at stops) (get_or fill q []) in
        let c : 8 + q < 11 = omega (arith, G.gapped.few) in
        let w : way_by ways (8 + q) (get_or fill q []) (8 + q) ≡ table_legs t (before_of gaps q) y (after_of gaps q) =
        way-by (get_or fill q []) (fill-places q) (8 + q) (8 + q) c c ∙ ap₂ (λ (a b : ℕ). table_legs t a y b) (G.before q h) (G.after q h)
        in
        let g : Region = get_or gs q no_region in
        let e = measured-way t g.vehicle (route_of P g.vehicle) g.from g.to (gap_at gaps q) (G.surveyed q h) y in
        ap₂ ◌+◌ (G.filled.own q h) w ∙ sym e

    -- that is the length of the route in the plan of the filling
    pub route-by : (q : ℕ) → q < length gs
        → route_by ways q (get_or fill q [])
        ≡ table_legs t (depot (vehicle_at gs no_region q)) (route_of X (vehicle_at gs no_region q)) (depot (vehicle_at gs no_region q))
    route-by q h =
        let e : route_of X (vehicle_at gs no_region q) ≡ spliced_at P no_region gs q (map (stop_at stops) (get_or fill q [])) =
        replaced-route P no_region gs (named stops fill) q G.gapped.stretches (length-map fill (map (stop_at stops)) ∙ F.gaps) h
        ∙ ap (spliced_at P no_region gs q) (get_or-map (map (stop_at stops)) fill q [])
        in
        spliced-by q h
        ∙ sym (ap (λ (r : Route). table_legs t (depot (vehicle_at gs no_region q)) r (depot (vehicle_at gs no_region q))) e)

    -- the routes cost what they cost in P, but for the regions' routes, which cost what the table says
    pub driven-by : table_driving t p 0 X + gap_driving t p P gs ≡ table_driving t p 0 P + driven_by ways 0 fill
    driven-by =
        subst (λ (c : Prices). table_driving t c 0 X + gap_driving t c P gs ≡ table_driving t c 0 P + driven_by ways 0 fill) G.filled.priced
        (driven-from t ways P (stop_at stops) gs fill 0 G.gapped.stretches F.gaps
        (λ j i e h. ap (λ (q : ℕ). route_by ways q (get_or fill j [])) (e ∙ zero-add j) ∙ spliced-by j h))

    -- ---- the whole cost

    abbrev missing : ℕ
    missing = m - length (concat fill)

    plan-left : placed X + missing ≡ placed P
    plan-left = plan-placed P gs fill m F refl G.gapped.stretches

    known-few : placed P ≤ n
    known-few = lent_placed plan.v n _ plan.lent

    wide : length X ≡ plan.v
    wide = plan-wide P gs fill ∙ lent_length plan.v n _ plan.lent

    -- those missed by the filling come to those missed before
    missed-both : missed_cost p (n - placed X) ≡ missed_cost p (n - placed P) + missed_cost (prices_at ways) missing
    missed-both =
        let e : n - placed X ≡ n - placed P + missing = omega (arith, plan-left, known-few) in
        ap (missed_cost p) e ∙ missed-sum p (n - placed P) missing
        ∙ ap (λ (c : Prices). missed_cost p (n - placed P) + missed_cost c missing) (sym G.filled.priced)

    -- by the table and over the legs
    pub cost-by : cost_by ways m fill ≡ table_cost t p n X
    unfolding cost_by table_cost
    cost-by = omega (arith, driven-by, missed-both, G.filled.rest, G.rest)

    -- ---- the limits

    -- short enough to be priced exactly
    pub short-by : (q : ℕ) → q < length gs → route_by ways q (get_or fill q []) ≤ 16000000
    short-by q h =
        let k : ℕ = vehicle_at gs no_region q in
        let few = length-le (route_of X k) (concat X) (λ s. count-route s X k) in
        omega (arith, route-by q h, way-small t tariff.legs.lengths (depot k) (route_of X k) (depot k), few, plan-left, known-few, plan.sizes.stops)

    -- and every cost is exact in f64
    pub small_by : cost_by ways m fill ≤ exact
    small_by =
        let few : placed X + length X ≤ 80 = omega (arith, plan-left, known-few, wide, plan.sizes.vehicles, plan.sizes.stops) in
        omega (arith, cost-by, cost-small t p tariff.legs.lengths tariff.affordable n X plan.sizes.stops few)

    -- ---- every job that fits

    pub job-by : (J : Job) → IsJobOf J tariff plan → cost J X ≡ cost_by ways m fill
    job-by J fits =
        let below = plan-below P gs fill m F refl G.gapped.stretches n plan.lent.below in
        sym (cost-by ∙ table-cost J t plan.v n p fits X (omega (arith, wide)) below (λ s h. omega (arith, below s h, plan.sizes.stops)))
