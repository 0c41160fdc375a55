-- Laws of weighing candidates in f64, and of the cuts that they are made of.
use Prim.Native.Nat.{ℕ, zero, suc, ◌+◌, ◌≤◌}
use native.Mathlib.Omega.{arith}
use mathlib.Core.Path.{◌≡◌, sym, ◌∙◌}
use mathlib.Core.Bool.{Bool, true, false}
use mathlib.Core.List.{List}
use lib.Dec.{ltb}
use lib.Ieee.{Float, binary64, add}
use Rattle.model.specs.declared.Prices.{Prices}
use Rattle.model.specs.Whole.{whole, amount, IsWhole}
use Rattle.model.specs.Legs.{Affordable}
use Rattle.model.specs.Cost.{price}
use Rattle.whole.proofs.Laws.{amount-is}
use Rattle.delivery.proofs.Laws.{price-small, sum-exact}
use Rattle.two_opt_cuts.specs.declared.Ends.{Ends}
use Rattle.two_opt_cuts.specs.declared.Cut.{Cut}
use Rattle.two_opt_cuts.specs.declared.Cuts.{Cuts}
use Rattle.two_opt_cuts.specs.Ends.{Shorts, reversed_cuts}
use Rattle.two_opt_candidates.specs.Weighed.{Weighs, tried, cuts_price, after_exchange, after_turns, after_all, Joins, TwoCuts, TwoCutRoutes}

-- ---- prices

module _ {m : ℕ} {c : Float} (w : Weighs m c) where
  pub weighs-whole : IsWhole c
  weighs-whole = (m, w.1, w.0)

  pub weighs-amount : amount c ≡ m
  weighs-amount = amount-is c m w.1 w.0

  -- the best so far is replaced, or it is not
  module _ (code : ℕ) (best : ℕ × ℕ) (t : Bool) (e : t ≡ ltb (amount c) best.1) where
    pub tried-first : t ≡ true → (code, amount c) ≡ tried code m best
    unfolding tried
    tried-first h = let k : ltb (amount c) best.1 ≡ true = sym e ∙ h in rw (← weighs-amount, k)

    pub tried-second : t ≡ false → best ≡ tried code m best
    unfolding tried
    tried-second h = let k : ltb (amount c) best.1 ≡ false = sym e ∙ h in rw (← weighs-amount, k)

-- two routes of known lengths
pub pair_weighs : (p : Prices) (x y dx dy : ℕ) (cx cy : Float) → Affordable p → x ≡ dx → y ≡ dy → x ≤ 13000000 → y ≤ 13000000
    → cx ≡ whole (price p x) → cy ≡ whole (price p y) → Weighs (price p dx + price p dy) (add binary64 cx cy)
pair_weighs p x y dx dy cx cy A ex ey sx sy wx wy =
    let hx : price p x ≤ 4112000000000000 = price-small p A x (omega arith) in
    let hy : price p y ≤ 4112000000000000 = price-small p A y (omega arith) in
    rw (wx, wy, ← ex, ← ey) (sum-exact (price p x) (price p y) (omega arith), omega arith)

-- ---- cuts

joins : {h e g u : Ends} (i j k l : ℕ) → i + j ≤ 64 → k + l ≤ 64 → Shorts i h → Shorts j e → Shorts k g → Shorts l u → Joins h e g u
joins i j k l few more H E G U =
    record {
      first_head = H.0.near;
      first_tail = E.0.near;
      first = omega (arith, H.0.out, E.0.back);
      second_head = G.1.near;
      second_tail = U.1.near;
      second = omega (arith, G.1.out, U.1.back);
    }

module _ {x y : Cut} (C : TwoCuts x y) where
  pub joins-own : Joins x.head x.tail y.head y.tail
  joins-own =
      let X = C.first in
      let Y = C.second in
      joins X.heads X.tails Y.heads Y.tails (omega (arith, C.few, X.few)) (omega (arith, C.few, Y.few)) X.head X.tail Y.head Y.tail

  pub joins-tails : Joins x.head y.tail y.head x.tail
  joins-tails =
      let X = C.first in
      let Y = C.second in
      joins X.heads Y.tails Y.heads X.tails (omega (arith, C.few, X.few, Y.few)) (omega (arith, C.few, X.few, Y.few)) X.head Y.tail Y.head X.tail

-- the second route first
pub exchange : {x y : Cut} → TwoCuts x y → TwoCuts y x
exchange C = record { m = C.n; n = C.m; few = omega (arith, C.few); first = C.second; second = C.first }

-- the first route reversed
turn : {x y : Cut} → TwoCuts x y → TwoCuts (record { head = x.tail; tail = x.head }) y
turn C =
    let X = C.first in
    record {
      m = C.m;
      n = C.n;
      few = C.few;
      first = record { heads = X.tails; tails = X.heads; few = omega (arith, X.few); head = X.tail; tail = X.head };
      second = C.second;
    }

module _ {x y : Cuts} (R : TwoCutRoutes x y) where
  pub first-turned : {q : Cuts} → q ≡ reversed_cuts x → TwoCutRoutes q y
  first-turned e = rw e go
    where
      go : TwoCutRoutes (reversed_cuts x) y
      go zero j = turn (R 1 j)
      go (suc i) j = turn (R 0 j)

  pub second-turned : {q : Cuts} → q ≡ reversed_cuts y → TwoCutRoutes x q
  second-turned e = rw e go
    where
      go : TwoCutRoutes x (reversed_cuts y)
      go i zero = exchange (turn (exchange (R i 1)))
      go i (suc j) = exchange (turn (exchange (R i 0)))

-- ---- one after another

module _ (t : List ℕ) (p : Prices) where
  pub two-tried : (x y : Cut) (code : ℕ) (best : ℕ × ℕ) {one two : ℕ × ℕ} → one ≡ tried (code + 1) (cuts_price t p true false x y) best
      → two ≡ tried (code + 2) (cuts_price t p false true x y) one → two ≡ after_exchange t p x y code best
  two-tried x y code best e f = rw (f, e)

  pub ten-tried : (x y : Cuts) (code : ℕ) (best : ℕ × ℕ) {kept ends whole one two all : ℕ × ℕ}
      → kept ≡ tried code (cuts_price t p true true x.before y.before) best
      → ends ≡ after_exchange t p x.before y.before code kept
      → whole ≡ tried (code + 3) (cuts_price t p false false x.before y.before) ends
      → one ≡ after_exchange t p x.before y.after (code + 4) whole
      → two ≡ after_exchange t p x.after y.before (code + 8) one
      → all ≡ after_exchange t p x.after y.after (code + 12) two
      → all ≡ after_turns t p x y code best
  unfolding after_turns
  ten-tried x y code best e f g h i j = rw (j, i, h, g, f, e)

  pub all-tried : (x y : Cuts) {u v : Cuts} {old : ℕ} {none second first both : ℕ × ℕ} → u ≡ reversed_cuts x → v ≡ reversed_cuts y
      → old ≡ cuts_price t p true true x.before y.before
      → none ≡ after_turns t p x y 0 (0, old)
      → second ≡ after_turns t p x v 16 none
      → first ≡ after_turns t p u y 32 second
      → both ≡ after_turns t p u v 48 first
      → both ≡ after_all t p x y
  unfolding after_all
  all-tried x y eu ev eo e f g h = rw (h, g, f, e, eo, eu, ev)
