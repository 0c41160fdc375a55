-- What is known of the gaps is written gap by gap, and the whole table filled.
use Rattle.std.proofs.Common.{◌≡◌, ℕ, ◌+◌, ◌*◌, ◌≤◌, ◌<◌, List, length, get_or, set, refl, sym, ap, ap₂, ◌∙◌, subst, arith}
use lib.Ieee.{Float}
use borrow.Author.Count.{below_more}
use Rattle.model.specs.declared.Prices.{Prices}
use Rattle.model.specs.Whole.{exact, whole, amount, IsWhole}
use Rattle.model.specs.Legs.{Affordable}
use Rattle.model.specs.Cost.{price}
use Rattle.distance.specs.declared.tariff.Tariff.{Tariff}
use Rattle.whole.proofs.Laws.{amount-is}
use Rattle.distance.proofs.Laws.{leg-small}
use Rattle.delivery.proofs.Laws.{price-small}
use Rattle.rebuild_survey.specs.declared.Gap.{Gap}
use Rattle.rebuild_survey.specs.Surveys.{head_of, rest_of}
use Rattle.rebuild_ways.specs.declared.Ways.{Ways}
use Rattle.rebuild_ways.specs.Exact.{IsExact, Wholly}
use Rattle.rebuild_ways.specs.Ways.{cell_at, way_at, own_at, vacant_at, prices_at, base_at}
use Rattle.rebuild_ways.specs.Table.{Fillable, Filled}
use Rattle.rebuild_ways.specs.Fills.{Written, InGaps, RowsFilled, GapsFillable, GapsFilled}
use Rattle.rebuild_ways.proofs.Laws.{exact-whole}
use Rattle.rebuild_ways.proofs.Filling.{whole-put, put-here, put-elsewhere, begins, more}

-- nothing is written yet
pub gaps-begin : (gaps : List Gap) (w : Ways) → GapsFilled gaps 0 w w
gaps-begin gaps w =
    record {
      written_own = begins (InGaps 0) w.own w.whole_own;
      written_vacant = begins (InGaps 0) w.vacant w.whole_vacant;
      own = λ q h. absurd (omega arith);
      vacant = λ q h. absurd (omega arith);
      legs = refl;
      priced = refl;
      rest = refl;
    }

module _ (gaps : List Gap) (p : ℕ) (before : Ways) (F : GapsFillable gaps p before) (m : ℕ) (h : m < p) (w : Ways) (G : GapsFilled gaps m before w) where
  -- the length of the gap's route without what fills the gap
  abbrev pub around : ℕ
  around = head_of gaps m + rest_of gaps m

  leg-same : way_at w (8 + m) (8 + m) ≡ way_at before (8 + m) (8 + m)
  leg-same = ap (λ (l : List Float). cell_at l (16 * (8 + m) + (8 + m))) G.legs

  around-is : amount (whole around) ≡ around
  around-is = amount-is (whole around) around (omega (arith, F.short m h)) refl

  route : ℕ
  route = around + way_at before (8 + m) (8 + m)

  route-is : amount (whole around) + way_at w (8 + m) (8 + m) ≡ route
  unfolding route
  route-is = ap₂ ◌+◌ around-is leg-same

  route-short : route ≤ 16000000
  unfolding route
  route-short = omega (arith, F.short m h, F.leg m h)

  -- what `closed` asks
  pub closable : IsWhole (whole around) × (amount (whole around) + way_at w (8 + m) (8 + m) ≤ 16000000)
  closable = ((around, omega (arith, F.short m h), refl), omega (arith, route-is, route-short))

  own-is-exact : IsExact (whole around)
  own-is-exact = exact-whole around (omega (arith, F.short m h))

  pub own-exact : Wholly (set w.own m (whole around))
  own-exact = whole-put w.own w.whole_own m (whole around) own-is-exact

  module _ (vacant : Float) (E : vacant ≡ whole (price (prices_at w) (amount (whole around) + way_at w (8 + m) (8 + m)))) where
    vacant-is : vacant ≡ whole (price (prices_at before) route)
    vacant-is = E ∙ ap₂ (λ (c : Prices) (d : ℕ). whole (price c d)) G.priced route-is

    small : price (prices_at before) route ≤ exact
    small = omega (arith, price-small (prices_at before) F.affordable route route-short)

    vacant-is-exact : IsExact vacant
    vacant-is-exact = rw vacant-is (exact-whole (price (prices_at before) route) small)

    pub vacant-exact : Wholly (set w.vacant m vacant)
    vacant-exact = whole-put w.vacant w.whole_vacant m vacant vacant-is-exact

    pub gaps-more : m < length w.own → m < length w.vacant → (after : Ways) → after.own ≡ set w.own m (whole around)
        → after.vacant ≡ set w.vacant m vacant → after.legs ≡ w.legs → prices_at after ≡ prices_at w → base_at after ≡ base_at w
        → GapsFilled gaps (m + 1) before after
    unfolding route
    gaps-more lo lv after eo ev el ep eb =
        record {
          written_own =
              subst (Written (InGaps (m + 1)) before.own) (sym eo)
              (more (InGaps m) (InGaps (m + 1)) before.own w.own m (whole around) G.written_own (λ i k. omega arith) (omega arith) own-is-exact);
          written_vacant =
              subst (Written (InGaps (m + 1)) before.vacant) (sym ev)
              (more (InGaps m) (InGaps (m + 1)) before.vacant w.vacant m vacant G.written_vacant (λ i k. omega arith) (omega arith) vacant-is-exact);
          own =
              below_more (λ q. own_at after q ≡ head_of gaps q + rest_of gaps q) m
              (λ q k. ap (λ (l : List Float). cell_at l q) eo ∙ put-elsewhere w.own m (whole around) q (λ e. omega arith) ∙ G.own q k)
              (ap (λ (l : List Float). cell_at l m) eo ∙ put-here w.own m (whole around) around lo refl (omega (arith, F.short m h)));
          vacant =
              below_more (λ q. vacant_at after q ≡ price (prices_at before) (head_of gaps q + rest_of gaps q + way_at before (8 + q) (8 + q))) m
              (λ q k. ap (λ (l : List Float). cell_at l q) ev ∙ put-elsewhere w.vacant m vacant q (λ e. omega arith) ∙ G.vacant q k)
              (ap (λ (l : List Float). cell_at l m) ev ∙ put-here w.vacant m vacant (price (prices_at before) route) lv vacant-is small);
          legs = el ∙ G.legs;
          priced = ep ∙ G.priced;
          rest = eb ∙ G.rest;
        }

-- ---- the whole table

-- the prices as f64 are the prices
pub prices-kept : (p : Prices) → Affordable p → (x : Float) → x ≡ whole p.missed
    → ◌≡◌ {A = Prices} (record { linear = amount (whole p.linear); quadratic = amount (whole p.quadratic); missed = amount x }) p
prices-kept p A x e =
    let l : amount (whole p.linear) ≡ p.linear = amount-is (whole p.linear) p.linear (omega (arith, A.linear)) refl in
    let q : amount (whole p.quadratic) ≡ p.quadratic = amount-is (whole p.quadratic) p.quadratic (omega (arith, A.quadratic)) refl in
    let m : amount x ≡ p.missed = amount-is x p.missed (omega (arith, A.missed)) e in
    let r : ◌≡◌ {A = Prices} (record { linear = amount (whole p.linear); quadratic = amount (whole p.quadratic); missed = amount x })
    (record { linear = p.linear; quadratic = p.quadratic; missed = p.missed }) =
    cc
    in
    r

module _ (t : Tariff) (starts ends : List ℕ) (gaps : List Gap) (p : ℕ) (base : Float) (F : Fillable starts ends gaps p base)
    (blank : List Float) (w : Ways) (R : RowsFilled t.legs.table starts ends 11 blank w.legs) (ep : prices_at w ≡ t.prices) where
  pub gaps-fillable : GapsFillable gaps p w
  gaps-fillable =
      record {
        affordable = subst Affordable (sym ep) t.affordable;
        few = F.few;
        short = F.short;
        leg = λ q h.
            let e = R.rows (8 + q) (8 + q) (omega (arith, F.few)) (omega (arith, F.few)) in
            omega (arith, leg-small t.legs.table (get_or starts (8 + q) 0) (get_or ends (8 + q) 0) t.legs.lengths);
      }

  pub filled : base_at w ≡ amount base → (after : Ways) → GapsFilled gaps p w after → Filled t starts ends gaps p base after
  filled eb after G =
      let legs : (r c : ℕ) → way_at after r c ≡ way_at w r c = λ r c. ap (λ (l : List Float). cell_at l (16 * r + c)) G.legs in
      record {
        rows = λ r c h k. legs r c ∙ R.rows r c h k;
        own = G.own;
        vacant = λ q h. G.vacant q h ∙ ap₂ price ep (ap₂ ◌+◌ (sym (G.own q h)) (sym (legs (8 + q) (8 + q))));
        priced = G.priced ∙ ep;
        rest = G.rest ∙ eb;
      }
