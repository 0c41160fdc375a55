-- What a call of the walk knows in f64: the length and the cost where it stands, and those that it hands on.
use Prim.Native.Nat.{ℕ, suc, ◌+◌, ◌-◌, ◌*◌, ◌%◌, ◌≤◌, ◌<◌}
use native.Mathlib.Nat.{add-zero, zero-add, suc-mul}
use native.Mathlib.Numerals.{add-one}
use native.Mathlib.Omega.{arith}
use mathlib.Core.Path.{◌≡◌, refl, sym, ap, ap₂, ◌∙◌, subst}
use mathlib.Core.List.{List, [], ◌∷◌, ◌++◌}
use lib.Ieee.{Float, binary64, add, sub}
use lib.ListN.{length, get_or}
use Rattle.model.specs.StopSet.{stops_of, excluding}
use Rattle.model.specs.Lists.{count, without}
use Rattle.model.specs.Whole.{exact, whole, amount, IsWhole}
use Rattle.model.specs.Cost.{price, missed_cost}
use Rattle.model.proofs.Cost.{missed_cost-is}
use Rattle.whole.proofs.Laws.{add-whole, sub-whole, amount-is}
use Rattle.stop_set.proofs.Laws.{taken-list, taken-size}
use Rattle.rebuild_fillings.specs.Walk.{Filling, empties}
use Rattle.rebuild_fillings.specs.Rows.{last_from, done_of, here_of, Reached, Full}
use Rattle.rebuild_fillings.proofs.Places.{standing-place, standing-stop}
use Rattle.rebuild_fillings.proofs.Rows.{word-last}
use Rattle.rebuild_fillings.proofs.Reading.{reached-next, reached-stop, next-done, next_here, stop-done, stop-here}
use Rattle.rebuild_fillings.proofs.Full.{padded-full}
use Rattle.rebuild_tables.specs.declared.frame.Frame.{Frame}
use Rattle.rebuild_tables.specs.Frame.{gap_count, drained_count}
use Rattle.rebuild_ways.specs.declared.Ways.{Ways}
use Rattle.rebuild_ways.specs.Ways.{way_at, own_at, vacant_at, prices_at}
use Rattle.rebuild_tables.specs.Ways.{gone_by, route_by, driven_by, cost_by}
use Rattle.rebuild_tables.specs.Walks.{FullIn, Tabled, later, elsewhere, Here}
use Rattle.rebuild_tables.proofs.Ways.{gone-more, route-last, driven-append, driven-first, driven-none, cost-padded}

-- what stands behind a list
behind : (done : Filling) (x : List ℕ) (ys : Filling) → get_or (done ++ x ∷ ys) (length done) [] ≡ x
behind [] x ys = refl
behind (z ∷ done) x ys = behind done x ys

module _ {ways : Ways} {f : Frame} (T : Tabled ways f) {q left word : ℕ} {len others : Float} (h : Here ways f q left word len others) where
  abbrev m : ℕ
  m = drained_count f

  abbrev done : Filling
  done = done_of q word

  abbrev here : List ℕ
  here = here_of q word

  -- the arrangement where the call stands
  abbrev pub padded : Filling
  padded = done ++ here ∷ empties (later f q)

  pub padded-is : FullIn f padded
  padded-is =
      let e : q + suc (later f q) ≡ gap_count f = omega (arith, h.gap) in
      subst (λ (p : ℕ). Full p m padded) e (padded-full m q (stops_of left) done here h.at.standing (later f q))

  at_gap : get_or padded q [] ≡ here
  at_gap = ap (λ (i : ℕ). get_or padded i []) (sym h.at.standing.gaps) ∙ behind done here (empties (later f q))

  route-short : route_by ways q here ≤ 16000000
  route-short = rw (← at_gap) (T.short padded padded-is q h.gap)

  -- the row where it stands
  pub row_is : word % 16 ≡ last_from (8 + q) here
  row_is =
      ap (λ (w : ℕ). w % 16) h.at.says
      ∙ word-last done here (omega (arith, h.at.gap, h.at.standing.gaps))
      (λ s k. omega (arith, standing-place m q (stops_of left) done here h.at.standing s (omega arith), h.at.few))
      ∙ ap (λ (i : ℕ). last_from (8 + i) here) h.at.standing.gaps

  gone-small : own_at ways q + gone_by ways (8 + q) here ≤ 16000000
  gone-small = omega (arith, route-short, route-last ways q here)

  pub len_whole : IsWhole len
  len_whole = (own_at ways q + gone_by ways (8 + q) here, omega (arith, gone-small), h.gone)

  len_is : amount len ≡ own_at ways q + gone_by ways (8 + q) here
  len_is = amount-is len (own_at ways q + gone_by ways (8 + q) here) (omega (arith, gone-small)) h.gone

  -- ---- the gap is closed

  closed_is : amount len + way_at ways (word % 16) (8 + q) ≡ route_by ways q here
  closed_is = omega (arith, len_is, ap (λ (r : ℕ). way_at ways r (8 + q)) row_is, route-last ways q here)

  pub closed-short : amount len + way_at ways (word % 16) (8 + q) ≤ 16000000
  closed-short = omega (arith, closed_is, route-short)

  padded-cost : elsewhere ways f q left word + price (prices_at ways) (route_by ways q here) ≡ cost_by ways m padded
  padded-cost = cost-padded ways m q (stops_of left) done here (later f q) h.at.standing

  -- what the arrangement costs
  pub cost-is : (c : Float) → c ≡ whole (price (prices_at ways) (amount len + way_at ways (word % 16) (8 + q)))
      → add binary64 others c ≡ whole (cost_by ways m padded)
  cost-is c e =
      let s = T.small padded padded-is in
      ap₂ (add binary64) h.besides (e ∙ ap (λ (x : ℕ). whole (price (prices_at ways) x)) closed_is)
      ∙ add-whole (elsewhere ways f q left word) (price (prices_at ways) (route_by ways q here)) (omega (arith, padded-cost, s)) (omega (arith, padded-cost, s))
      ∙ ap whole padded-cost

  -- ---- the next gap

  module _ (k : q + 1 < gap_count f) (w : ℕ) (ew : w ≡ word * 16 + (8 + (q + 1))) where
    abbrev r : ℕ
    r = q + 1

    low : q + 1 ≤ 2
    low = omega (arith, k, f.framed.gaps, f.framed.gapped.few)

    same_word : w ≡ word * 16 + 8 + (q + 1)
    same_word = omega arith

    pub next-reached : Reached m r (stops_of left) w
    next-reached = rw same_word (reached-next m q (stops_of left) word h.at low)

    pub done_next : done_of r w ≡ done ++ here ∷ []
    done_next = ap (done_of r) same_word ∙ next-done m q (stops_of left) word h.at low

    pub here-next : here_of r w ≡ []
    here-next = ap (here_of r) same_word ∙ next_here m q (stops_of left) word h.at low

    -- the empty gap's route stands apart
    vacant-apart : cost_by ways m padded ≡ vacant_at ways r + elsewhere ways f r left w
    vacant-apart =
        let e : later f q ≡ suc (later f r) = omega arith in
        let v : vacant_at ways r ≡ price (prices_at ways) (route_by ways r []) = T.vacant r k in
        let a : driven_by ways (suc q) (empties (later f q)) ≡ price (prices_at ways) (route_by ways r []) + driven_by ways (suc r) (empties (later f r)) =
        ap (λ (i : ℕ). driven_by ways (suc q) (empties i)) e ∙ ap (λ (i : ℕ). driven_by ways i (empties (suc (later f r)))) (sym (add-one q))
        ∙ driven-first ways r [] (empties (later f r))
        in
        let b : driven_by ways 0 (done_of r w) ≡ driven_by ways 0 done + price (prices_at ways) (route_by ways q here) =
        ap (driven_by ways 0) done_next ∙ driven-append ways 0 done (here ∷ [])
        ∙ ap (λ (i : ℕ). driven_by ways 0 done + driven_by ways i (here ∷ [])) (zero-add (length done) ∙ h.at.standing.gaps)
        ∙ ap (λ (x : ℕ). driven_by ways 0 done + x) (driven-first ways q here [] ∙ ap (λ (x : ℕ). price (prices_at ways) (route_by ways q here) + x) (driven-none ways (suc q)) ∙ add-zero _)
        in
        omega (arith, padded-cost, v, a, b)

    pub here-opened : (own cost vacant : Float) → own ≡ whole (own_at ways r) → cost ≡ whole (cost_by ways m padded) → vacant ≡ whole (vacant_at ways r)
        → Here ways f r left w own (sub binary64 cost vacant)
    unfolding gone_by
    here-opened own cost vacant eo ec ev =
        let s = T.small padded padded-is in
        let g : own_at ways r + gone_by ways (8 + r) (here_of r w) ≡ own_at ways r = rw here-next (omega arith) in
        let d : cost_by ways m padded - vacant_at ways r ≡ elsewhere ways f r left w = omega (arith, vacant-apart) in
        record {
          gap = k;
          at = next-reached;
          gone = eo ∙ ap whole (sym g);
          besides =
              ap₂ (sub binary64) ec ev
              ∙ sub-whole (cost_by ways m padded) (vacant_at ways r) s (omega (arith, s, vacant-apart)) (omega (arith, vacant-apart))
              ∙ ap whole d;
        }

  -- ---- one stop more in gap q

  module _ (s : ℕ) (k : 1 ≤ count s (stops_of left)) (fewer : ℕ) (ef : fewer ≡ excluding s left) where
    stop-reached : Reached m q (stops_of fewer) (word * 16 + s)
    stop-reached = rw (taken-list left s fewer k ef) (reached-stop m q (stops_of left) word h.at s k)

    pub stop-small : s ≤ 7
    stop-small = omega (arith, standing-place m q (stops_of left) done here h.at.standing s (omega arith), h.at.few)

    stop-done-is : done_of q (word * 16 + s) ≡ done
    stop-done-is = stop-done m q (stops_of left) word h.at s k

    stop-here-is : here_of q (word * 16 + s) ≡ here ++ s ∷ []
    stop-here-is = stop-here m q (stops_of left) word h.at s k

    gone-is : amount len + way_at ways (word % 16) s ≡ own_at ways q + gone_by ways (8 + q) (here ++ s ∷ [])
    gone-is = omega (arith, len_is, ap (λ (r : ℕ). way_at ways r s) row_is, gone-more ways (8 + q) here s)

    missed-apart : elsewhere ways f q left word ≡ (prices_at ways).missed + elsewhere ways f q fewer (word * 16 + s)
    missed-apart =
        let a : missed_cost (prices_at ways) (length (stops_of left)) ≡ (prices_at ways).missed + missed_cost (prices_at ways) (length (stops_of fewer)) =
        ap (missed_cost (prices_at ways)) (taken-size left s fewer k ef)
        ∙ missed_cost-is (prices_at ways) (suc (length (stops_of fewer)))
        ∙ suc-mul (length (stops_of fewer)) (prices_at ways).missed
        ∙ omega (arith, missed_cost-is (prices_at ways) (length (stops_of fewer)))
        in
        omega (arith, a, ap (driven_by ways 0) stop-done-is)

    pub here-stop : (gone missed : Float) → gone ≡ whole (amount len + way_at ways (word % 16) s) → missed ≡ whole (prices_at ways).missed
        → Here ways f q fewer (word * 16 + s) gone (sub binary64 others missed)
    here-stop gone missed eg em =
        let b : elsewhere ways f q left word ≤ exact = omega (arith, padded-cost, T.small padded padded-is) in
        let d : elsewhere ways f q left word - (prices_at ways).missed ≡ elsewhere ways f q fewer (word * 16 + s) = omega (arith, missed-apart) in
        record {
          gap = h.gap;
          at = stop-reached;
          gone = eg ∙ ap whole (gone-is ∙ ap (λ (x : List ℕ). own_at ways q + gone_by ways (8 + q) x) (sym stop-here-is));
          besides =
              ap₂ (sub binary64) h.besides em
              ∙ sub-whole (elsewhere ways f q left word) (prices_at ways).missed b (omega (arith, b, missed-apart)) (omega (arith, missed-apart))
              ∙ ap whole d;
        }

    abbrev further : List ℕ
    further = here ++ s ∷ []

    further-full : FullIn f (done ++ further ∷ empties (later f q))
    further-full =
        let e : q + suc (later f q) ≡ gap_count f = omega (arith, h.gap) in
        subst (λ (p : ℕ). Full p m (done ++ further ∷ empties (later f q))) e
        (padded-full m q (without s (stops_of left)) done further (standing-stop m q (stops_of left) done here h.at.standing s k) (later f q))

    pub step_small : amount len + way_at ways (word % 16) s ≤ exact
    step_small =
        let a : get_or (done ++ further ∷ empties (later f q)) q [] ≡ further =
        ap (λ (i : ℕ). get_or (done ++ further ∷ empties (later f q)) i []) (sym h.at.standing.gaps) ∙ behind done further (empties (later f q))
        in
        let b : route_by ways q further ≤ 16000000 = rw (← a) (T.short (done ++ further ∷ empties (later f q)) further-full q h.gap) in
        omega (arith, gone-is, b, route-last ways q further)
