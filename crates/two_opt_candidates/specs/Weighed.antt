-- What is asked of cut routes to weigh the candidates made of them, and what is found.
use Rattle.std.specs.Prelude.{◌≡◌, ℕ, zero, suc, ◌+◌, ◌≤◌, ◌<◌, Bool, true, false, cond, List, ltb, Float, length}
use Rattle.model.specs.declared.Prices.{Prices}
use Rattle.model.specs.Whole.{exact, whole, amount}
use Rattle.model.specs.Lists.{member, Once}
use Rattle.model.specs.Plan.{Route}
use Rattle.model.specs.Legs.{leg_at}
use Rattle.model.specs.Cost.{price}
use Rattle.distance.specs.Ways.{Drivable}
use Rattle.two_opt_cuts.specs.declared.End.{End}
use Rattle.two_opt_cuts.specs.declared.Ends.{Ends}
use Rattle.two_opt_cuts.specs.declared.Cut.{Cut}
use Rattle.two_opt_cuts.specs.declared.Cuts.{Cuts}
use Rattle.two_opt_cuts.specs.Ends.{Shorts, reversed_cuts}
use Rattle.two_opt_candidates.specs.declared.Best.{Best}

-- c is the f64 of m, which is small enough to be exact
abbrev pub Weighs : ℕ → Float → Type 0
Weighs m c = (c ≡ whole m) × (m ≤ exact)

-- the number and the price of a candidate
abbrev pub found : Best → ℕ × ℕ
found best = (best.code, amount best.price)

-- ---- what is weighed

-- the best so far after a candidate of price x: that replaces it only where it is strictly cheaper
unfoldable pub tried : ℕ → ℕ → ℕ × ℕ → ℕ × ℕ
tried code x best = cond (ltb x best.1) (code, x) best

-- the length of the route that is joined from a head and a tail
abbrev pub joined_length : List ℕ → End → End → ℕ
joined_length t head tail = head.out + leg_at t head.joint tail.joint + tail.back

-- what two routes cost: head h and tail t on the first vehicle, head g and tail u on the second
abbrev pub ends_price : List ℕ → Prices → Ends → Ends → Ends → Ends → ℕ
ends_price t p h e g u = price p (joined_length t h.first e.first) + price p (joined_length t g.second u.second)

-- what the two routes cost that are made of two cut ones, which keep or exchange their heads and tails
abbrev pub cuts_price : List ℕ → Prices → Bool → Bool → Cut → Cut → ℕ
cuts_price t p heads tails x y =
    ends_price t p (cond heads x.head y.head) (cond tails x.tail y.tail) (cond heads y.head x.head) (cond tails y.tail x.tail)

-- the best so far after the candidates that exchange the tails, and the heads
abbrev pub after_exchange : List ℕ → Prices → Cut → Cut → ℕ → ℕ × ℕ → ℕ × ℕ
after_exchange t p x y code best = tried (code + 2) (cuts_price t p false true x y) (tried (code + 1) (cuts_price t p true false x y) best)

-- the best so far after ten of the sixteen candidates of two cut routes: the others repeat the first and the fourth
unfoldable pub after_turns : List ℕ → Prices → Cuts → Cuts → ℕ → ℕ × ℕ → ℕ × ℕ
after_turns t p x y code best =
    let kept = tried code (cuts_price t p true true x.before y.before) best in
    let whole = tried (code + 3) (cuts_price t p false false x.before y.before) (after_exchange t p x.before y.before code kept) in
    let one = after_exchange t p x.before y.after (code + 4) whole in
    let two = after_exchange t p x.after y.before (code + 8) one in
    after_exchange t p x.after y.after (code + 12) two

-- the best of two cut routes, reversed or not
unfoldable pub after_all : List ℕ → Prices → Cuts → Cuts → ℕ × ℕ
after_all t p x y =
    let none = after_turns t p x y 0 (0, cuts_price t p true true x.before y.before) in
    let second = after_turns t p x (reversed_cuts y) 16 none in
    let first = after_turns t p (reversed_cuts x) y 32 second in
    after_turns t p (reversed_cuts x) (reversed_cuts y) 48 first

-- ---- what is asked

-- a head and a tail on each vehicle that can be joined to a route
pub record Joins (h e g u : Ends) : Type 0 where
  pub first_head : h.first.joint < 80
  pub first_tail : e.first.joint < 80
  pub first : h.first.out + e.first.back ≤ 12800000
  pub second_head : g.second.joint < 80
  pub second_tail : u.second.joint < 80
  pub second : g.second.out + u.second.back ≤ 12800000

-- the cut before the stop, or after it
abbrev pub cut_of : Cuts → ℕ → Cut
cut_of c zero = c.before
cut_of c (suc x) = c.after

-- a cut route of at most m stops
pub record Sized (m : ℕ) (c : Cut) : Type 0 where
  pub heads : ℕ
  pub tails : ℕ
  pub few : heads + tails ≤ m
  pub head : Shorts heads c.head
  pub tail : Shorts tails c.tail

-- two cut routes of at most 64 stops together
pub record TwoCuts (x y : Cut) : Type 0 where
  pub m : ℕ
  pub n : ℕ
  pub few : m + n ≤ 64
  pub first : Sized m x
  pub second : Sized n y

-- the same for every choice of the cuts of two routes
abbrev pub TwoCutRoutes : Cuts → Cuts → Type 0
TwoCutRoutes x y = (i j : ℕ) → TwoCuts (cut_of x i) (cut_of y j)

-- two routes of vehicles a and b, and a stop on each
pub record Routes (a : ℕ) (ra : Route) (s b : ℕ) (rb : Route) (t : ℕ) : Type 0 where
  pub first : a < 16
  pub first_row : Drivable ra
  pub first_once : Once ra
  pub first_stop : member s ra ≡ true
  pub second : b < 16
  pub second_row : Drivable rb
  pub second_once : Once rb
  pub second_stop : member t rb ≡ true
  pub few : length ra + length rb ≤ 64
