-- What is weighed of two cut routes is the first of the cheapest of all 64 candidates.
use Prim.Native.Nat.{ℕ, zero, suc, ◌+◌, ◌*◌, ◌/◌, ◌%◌, ◌<◌}
use native.Mathlib.Omega.{arith}
use native.Mathlib.Nat.{add-zero, add-suc}
use mathlib.Core.Path.{◌≡◌, refl, sym, ap, ap₂, ◌∙◌}
use mathlib.Core.Bool.{Bool, true, false, cond}
use mathlib.Core.List.{List, reverse}
use lib.Dec.{eqb, ltb}
use lib.ListN.{length, take, drop, take-append-drop, length-take, length-drop}
use Rattle.model.specs.declared.Prices.{Prices}
use Rattle.model.specs.Lists.{up_from, member, position, Once}
use Rattle.model.specs.Plan.{Route}
use Rattle.model.specs.Legs.{LegTable}
use Rattle.model.specs.Cost.{price}
use Rattle.model.specs.TwoOpt.{turned, exchanged}
use Rattle.model.proofs.Lists.{position-lt}
use Rattle.model.proofs.Counts.{position-reverse}
use Rattle.distance.specs.Ways.{Drivable}
use Rattle.two_opt_cuts.specs.declared.Cut.{Cut}
use Rattle.two_opt_cuts.specs.declared.Cuts.{Cuts}
use Rattle.two_opt_cuts.specs.Ends.{CutAt, CutBy, reversed_cuts}
use Rattle.two_opt_cuts.proofs.Laws.{cut-reversed, head-short, tail-short, joined-way}
use Rattle.two_opt_candidates.specs.Pairs.{pair_price, price_at, least, least_pair}
use Rattle.two_opt_candidates.specs.Weighed.{tried, cuts_price, after_turns, after_all, cut_of, Sized, TwoCutRoutes, Routes}
use Rattle.two_opt_candidates.proofs.Repeats.{two, steps, first-four, ten}
use Rattle.two_opt_candidates.proofs.Pairs.{least-append}

-- ---- numbers of candidates

-- what the binary digits of a number say
module _ (first x y d : ℕ) (e : first ≡ 32 * x + 16 * y) (hx : x < 2) (hy : y < 2) (hd : d < 16) where
  digits : ((first + d) / 32 % 2 ≡ x) × ((first + d) / 16 % 2 ≡ y) × ((first + d) / 8 % 2 ≡ d / 8 % 2) × ((first + d) / 4 % 2 ≡ d / 4 % 2) × ((first + d) / 2 % 2 ≡ d / 2 % 2) × ((first + d) % 2 ≡ d % 2)
  digits = (omega arith, omega arith, omega arith, omega arith, omega arith, omega arith)

-- sixteen numbers from `first` on
least-steps : (f g : ℕ → ℕ) (first a k : ℕ) (best : ℕ × ℕ) → ((d : ℕ) → d < a + k → f (first + d) ≡ g d)
    → least f (up_from (first + a) k) best ≡ steps (λ d. first + d) g (up_from a k) best
unfolding tried
least-steps f g first a zero best e = refl
least-steps f g first a (suc k) best e =
    rw (← add-suc, e a (omega arith)) (least-steps f g first (suc a) k (cond (ltb (g a) best.1) (first + a, g a) best) (λ d h. e d (omega arith)))

in_blocks : (f : ℕ → ℕ) (best : ℕ × ℕ) → least f (up_from 0 64) best ≡ least f (up_from 48 16) (least f (up_from 32 16) (least f (up_from 16 16) (least f (up_from 0 16) best)))
in_blocks f best =
    least-append f (up_from 0 16) (up_from 16 48) best
    ∙ least-append f (up_from 16 16) (up_from 32 32) (least f (up_from 0 16) best)
    ∙ least-append f (up_from 32 16) (up_from 48 16) (least f (up_from 16 16) (least f (up_from 0 16) best))

-- ---- cuts

-- c is the route of stop s, reversed or not, cut before and after the stop
record Side (t : List ℕ) (a b : ℕ) (turn : Bool) (r : Route) (s : ℕ) (c : Cuts) : Type 0 where
  cut : (x : ℕ) → x < 2 → CutAt t a b (turned turn r) (position s (turned turn r) + x) (cut_of c x)

module _ {t : List ℕ} {a b : ℕ} {r : Route} {s : ℕ} {c : Cuts} (C : CutBy t a b r (position s r) c) where
  plain : Side t a b false r s c
  plain = record { cut = go }
    where
      go : (x : ℕ) → x < 2 → CutAt t a b r (position s r + x) (cut_of c x)
      go zero h = rw add-zero C.0
      go (suc zero) h = C.1
      go (suc (suc x)) h = absurd (omega arith)

  back : Once r → member s r ≡ true → Side t a b true r s (reversed_cuts c)
  back o m = record { cut = go }
    where
      go : (x : ℕ) → x < 2 → CutAt t a b (reverse r) (position s (reverse r) + x) (cut_of (reversed_cuts c) x)
      go zero h = cut-reversed (position s r + 1) _ (omega (arith, position-reverse r o s m, position-lt s r m)) C.1
      go (suc zero) h = cut-reversed (position s r) _ (omega (arith, position-reverse r o s m, position-lt s r m)) C.0
      go (suc (suc x)) h = absurd (omega arith)

module _ (t : List ℕ) (p : Prices) (a b : ℕ) {ra : Route} {i : ℕ} {c : Cut} {rb : Route} {j : ℕ} {d : Cut} (C : CutAt t a b ra i c) (D : CutAt t a b rb j d) where
  -- two routes of known heads and tails
  cut-price : (heads tails : Bool) → cuts_price t p heads tails c d ≡ pair_price t p a b (exchanged heads tails ra i rb j)
  cut-price true true = ap₂ ◌+◌ (ap (price p) (joined-way t a _ _ _ _ C.head.0 C.tail.0)) (ap (price p) (joined-way t b _ _ _ _ D.head.1 D.tail.1))
  cut-price true false = ap₂ ◌+◌ (ap (price p) (joined-way t a _ _ _ _ C.head.0 D.tail.0)) (ap (price p) (joined-way t b _ _ _ _ D.head.1 C.tail.1))
  cut-price false true = ap₂ ◌+◌ (ap (price p) (joined-way t a _ _ _ _ D.head.0 C.tail.0)) (ap (price p) (joined-way t b _ _ _ _ C.head.1 D.tail.1))
  cut-price false false = ap₂ ◌+◌ (ap (price p) (joined-way t a _ _ _ _ D.head.0 D.tail.0)) (ap (price p) (joined-way t b _ _ _ _ C.head.1 C.tail.1))

  -- both ends kept, or both exchanged: the cuts do not matter
  kept-price : cuts_price t p true true c d ≡ pair_price t p a b (ra, rb)
  kept-price = cut-price true true ∙ rw (take-append-drop i ra, take-append-drop j rb)

  exchanged-price : cuts_price t p false false c d ≡ pair_price t p a b (rb, ra)
  exchanged-price = cut-price false false ∙ rw (take-append-drop i ra, take-append-drop j rb)

-- what the last four digits of a number say of two cut routes
digit_price : List ℕ → Prices → Cuts → Cuts → ℕ → ℕ
digit_price t p c d n = cuts_price t p (eqb (n / 2 % 2) 0) (eqb (n % 2) 0) (cut_of c (n / 8 % 2)) (cut_of d (n / 4 % 2))

-- two routes that are turned in one way
module _ (t : List ℕ) (p : Prices) (a : ℕ) (ra : Route) (s b : ℕ) (rb : Route) (u : ℕ) (x y : ℕ) (hx : x < 2) (hy : y < 2) {c d : Cuts}
    (A : Side t a b (eqb x 1) ra s c) (B : Side t a b (eqb y 1) rb u d) where
  side-price : (first n : ℕ) → first ≡ 32 * x + 16 * y → n < 16 → price_at t p a ra s b rb u (first + n) ≡ digit_price t p c d n
  unfolding digit_price
  side-price first n e h =
      let D = digits first x y n e hx hy h in
      rw (D.0, D.1, D.2, D.3, D.4, D.5)
      (sym (cut-price t p a b (A.cut (n / 8 % 2) (omega arith)) (B.cut (n / 4 % 2) (omega arith)) (eqb (n / 2 % 2) 0) (eqb (n % 2) 0)))

  side-block : (first : ℕ) → first ≡ 32 * x + 16 * y → (best : ℕ × ℕ)
      → least (price_at t p a ra s b rb u) (up_from (first + 0) 16) best
      ≡ two (λ n. first + n) (digit_price t p c d) 12 (two (λ n. first + n) (digit_price t p c d) 8 (two (λ n. first + n) (digit_price t p c d) 4 (first-four (λ n. first + n) (digit_price t p c d) best)))
  unfolding digit_price
  side-block first e best =
      least-steps (price_at t p a ra s b rb u) (digit_price t p c d) first 0 16 best (λ n h. side-price first n e h)
      ∙ ten (λ n. first + n) (digit_price t p c d) _ _ (
        kept-price t p a b (A.cut 0 (omega arith)) (B.cut 0 (omega arith)),
        kept-price t p a b (A.cut 0 (omega arith)) (B.cut 1 (omega arith)),
        kept-price t p a b (A.cut 1 (omega arith)) (B.cut 0 (omega arith)),
        kept-price t p a b (A.cut 1 (omega arith)) (B.cut 1 (omega arith)),
      ) (
        exchanged-price t p a b (A.cut 0 (omega arith)) (B.cut 0 (omega arith)),
        exchanged-price t p a b (A.cut 0 (omega arith)) (B.cut 1 (omega arith)),
        exchanged-price t p a b (A.cut 1 (omega arith)) (B.cut 0 (omega arith)),
        exchanged-price t p a b (A.cut 1 (omega arith)) (B.cut 1 (omega arith)),
      ) best

-- ---- all four ways to turn two routes

module _ {a : ℕ} {ra : Route} {s b : ℕ} {rb : Route} {u : ℕ} (R : Routes a ra s b rb u) where
  pub first-there : (i : ℕ) → i ≡ position s ra → i < length ra
  first-there i e = rw e (position-lt s ra R.first_stop)

  pub second-there : (j : ℕ) → j ≡ position u rb → j < length rb
  second-there j e = rw e (position-lt u rb R.second_stop)

  module _ (t : List ℕ) {i j : ℕ} (ei : i ≡ position s ra) (ej : j ≡ position u rb) {c d : Cuts} (C : CutBy t a b ra i c) (D : CutBy t a b rb j d) where
    pub two-routes : LegTable t → TwoCutRoutes c d
    two-routes T x y =
        record {
          m = length ra;
          n = length rb;
          few = R.few;
          first = sized ra i R.first_row C x;
          second = sized rb j R.second_row D y;
        }
      where
        sized : (r : Route) (k : ℕ) {e : Cuts} → Drivable r → CutBy t a b r k e → (x : ℕ) → Sized (length r) (cut_of e x)
        sized r k {e} D E x = go x
          where
            short : (l : ℕ) {f : Cut} → CutAt t a b r l f → Sized (length r) f
            short l F =
                record {
                  heads = length (take l r);
                  tails = length (drop l r);
                  few = omega (arith, length-take l r, length-drop l r);
                  head = head-short l T R.first R.second D F;
                  tail = tail-short l T R.first R.second D F;
                }

            go : (x : ℕ) → Sized (length r) (cut_of e x)
            go zero = short k E.0
            go (suc x) = short (k + 1) E.1

    pub all_found : (p : Prices) → after_all t p c d ≡ least_pair t p a ra s b rb u
    unfolding least_pair after_all after_turns digit_price
    all_found p =
        let f : ℕ → ℕ = price_at t p a ra s b rb u in
        let A = plain {s = s} (rw ei at C) in
        let A' = back {s = s} (rw ei at C) R.first_once R.first_stop in
        let B = plain {s = u} (rw ej at D) in
        let B' = back {s = u} (rw ej at D) R.second_once R.second_stop in
        let z : f 0 ≡ cuts_price t p true true c.before d.before = side-price t p a ra s b rb u 0 0 (omega arith) (omega arith) A B 0 0 refl (omega arith) in
        let e₀ : least f (up_from 0 16) (0, f 0) ≡ after_turns t p c d 0 (0, cuts_price t p true true c.before d.before) =
        side-block t p a ra s b rb u 0 0 (omega arith) (omega arith) A B 0 refl (0, f 0) ∙ rw z
        in
        let e₁ = side-block t p a ra s b rb u 0 1 (omega arith) (omega arith) A B' 16 refl (least f (up_from 0 16) (0, f 0)) in
        let e₂ = side-block t p a ra s b rb u 1 0 (omega arith) (omega arith) A' B 32 refl (least f (up_from 16 16) (least f (up_from 0 16) (0, f 0))) in
        let e₃ = side-block t p a ra s b rb u 1 1 (omega arith) (omega arith) A' B' 48 refl (least f (up_from 32 16) (least f (up_from 16 16) (least f (up_from 0 16) (0, f 0)))) in
        sym
        (in_blocks f (0, f 0)
        ∙ e₃
        ∙ ap (after_turns t p (reversed_cuts c) (reversed_cuts d) 48) (e₂ ∙ ap (after_turns t p (reversed_cuts c) d 32) (e₁ ∙ ap (after_turns t p c (reversed_cuts d) 16) e₀)))
