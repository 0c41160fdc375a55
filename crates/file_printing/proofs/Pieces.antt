-- The pieces of what is printed, written one after another.
use mathlib.Core.Path.{◌≡◌, refl, sym, ◌∙◌, ap}
use Prim.Native.Nat.{ℕ, zero, suc, ◌+◌, ◌*◌, ◌^◌, ◌≤◌, ◌<◌}
use native.Mathlib.Nat.{zero-add}
use native.Mathlib.Numerals.{add-one}
use native.Mathlib.Omega.{arith}
use mathlib.Core.Bool.{Bool, true, false, cond}
use mathlib.Core.List.{List, [], ◌∷◌, ◌++◌, append_assoc, append-nil}
use lib.ListN.{length, set, length-append, length-take, length-drop}
use lib.Ieee as Ieee
use lib.Ieee.{Float, nan, inf, fin}
use Rattle.model.specs.declared.Totals.{Totals}
use Rattle.model.specs.Whole.{amount}
use Rattle.model.specs.Plan.{Plan, decode, vehicle_of, is_placed, Sizes}
use Rattle.model.specs.File.{line_feed, dash, justified, columns, fields, line, printed_stop, printed_run, printed_refusal, printed}
use Rattle.model.proofs.Columns.{tested, columns-length}
use Rattle.model.proofs.Lists.{up_from-append}
use Rattle.model.proofs.Pieces.{for_each-append}
use Rattle.model.proofs.PlanForm.{length_cut}
use Rattle.model.proofs.Locate.{vehicle-le}
use Rattle.solution.specs.declared.Place.{Place}
use Rattle.std.specs.Prelude.{Option, Some, None, Ok}
use Rattle.solution.specs.Places.{place_of}
use Rattle.file_columns.specs.Put.{written}
use Rattle.file_printing.specs.Printing.{printed_vehicle, printed_stops, printed_totals, Prints}
use Rattle.file_columns.proofs.Puts.{written-nil, written-more, set_after}

-- ---- the vehicle of a stop

chosen : (b : Bool) (q p : Place) → cond b (Some q) None ≡ Some p → (b ≡ true) × (q ≡ p)
chosen true q p e = (refl, cc)
chosen false q p e = let z : ◌≡◌ {A = ℕ} 0 1 = cc in absurd (omega arith)

none-chosen : (b : Bool) (q : Place) → cond b (Some q) None ≡ None → b ≡ false
none-chosen true q e = let z : ◌≡◌ {A = ℕ} 0 1 = cc in absurd (omega arith)
none-chosen false q e = refl

module _ (P : Plan) (s : ℕ) (f : Option Place) (found : f ≡ place_of s P) where
  module _ (p : Place) (e : f ≡ Some p) where
    here : (is_placed s P ≡ true) × (vehicle_of s P ≡ p.vehicle)
    here =
        let both = chosen (is_placed s P) _ p (sym found ∙ e) in
        (both.0, ap (λ x. x.vehicle) both.1)

    pub vehicle-printed : columns 4 p.vehicle ≡ printed_vehicle P s
    unfolding printed_vehicle
    vehicle-printed = rw (here.0, here.1)

    pub vehicle-small : p.vehicle ≤ length P
    vehicle-small = rw (← here.1) (vehicle-le s P)

  pub dash-printed : f ≡ None → justified 4 (dash ∷ []) ≡ printed_vehicle P s
  unfolding printed_vehicle
  dash-printed e = rw (none-chosen (is_placed s P) _ (sym found ∙ e))

pub routes-few : (v : ℕ) (xs : List ℕ) → length (decode v xs) ≤ v
unfolding decode
routes-few v xs = rw length_cut (omega (arith, length-take v xs))

-- ---- the line of a stop

-- a piece written after another, of which it is known how long it is
pub after : (old a b : List ℕ) (at k : ℕ) (p q : List ℕ) → length p ≡ k → at + k ≤ length old → a ≡ written old at p → b ≡ written a (at + k) q
    → b ≡ written old at (p ++ q)
after old a b at k p q l room e g =
    g ∙ ap (λ x. written x (at + k) q) e ∙ (rw l at (written-more old at p q (rw l room)))

-- and a line feed
pub line-feed : (old a : List ℕ) (at k : ℕ) (p : List ℕ) → length p ≡ k → at + k < length old → a ≡ written old at p
    → set a (at + k) line_feed ≡ written old at (p ++ (line_feed ∷ []))
line-feed old a at k p l room e = ap (λ x. set x (at + k) line_feed) e ∙ (rw l at (set_after old at p line_feed (rw l room)))

vehicle-length : (v : ℕ) (xs : List ℕ) (s : ℕ) → v ≤ 16 → length (printed_vehicle (decode v xs) s) ≡ 4
unfolding printed_vehicle
vehicle-length v xs s few =
    let P = decode v xs in
    tested (is_placed s P)
    (λ b. rw b (columns-length 3 (vehicle_of s P) (omega (arith, vehicle-le s P, routes-few v xs))))
    (λ b. rw b)

pub stop-printed : (v n : ℕ) (xs : List ℕ) (old a b : List ℕ) (at s : ℕ) → Sizes v n → s < n → at + 9 ≤ length old → a ≡ written old at (columns 4 s)
    → b ≡ written a (at + 4) (printed_vehicle (decode v xs) s) → set b (at + 8) line_feed ≡ written old at (printed_stop (decode v xs) s)
unfolding printed_stop printed_vehicle
stop-printed v n xs old a b at s sizes l room e g =
    let P = decode v xs in
    let w : length (columns 4 s) ≡ 4 = columns-length 3 s (omega (arith, sizes.stops)) in
    let u : length (printed_vehicle P s) ≡ 4 = vehicle-length v xs s sizes.vehicles in
    let both : length (columns 4 s ++ printed_vehicle P s) ≡ 8 = rw (length-append, w, u) in
    line-feed old b at 8 (columns 4 s ++ printed_vehicle P s) both (omega arith)
    (after old a b at 4 (columns 4 s) (printed_vehicle P s) w (omega arith) e g)
    ∙ ap (written old at) (append_assoc (columns 4 s) (printed_vehicle P s) (line_feed ∷ []))

-- ---- the lines of all stops

stop-length : (v : ℕ) (xs : List ℕ) (s : ℕ) → v ≤ 16 → s < 10 ^ 4 → length (printed_stop (decode v xs) s) ≡ 9
unfolding printed_stop printed_vehicle
stop-length v xs s few l = rw (length-append, columns-length 3 s l, length-append, vehicle-length v xs s few)

stops-snoc : (P : Plan) (n : ℕ) → printed_stops P (n + 1) ≡ printed_stops P n ++ printed_stop P n
unfolding printed_stops
stops-snoc P n = rw (up_from-append 0 n 1, for_each-append, zero-add, append-nil)

stops-empty : (P : Plan) → printed_stops P 0 ≡ []
unfolding printed_stops
stops-empty P = refl

pub stops-length : (v : ℕ) (xs : List ℕ) (n : ℕ) → v ≤ 16 → n ≤ 64 → length (printed_stops (decode v xs) n) ≡ n * 9
stops-length v xs zero few l = ap length (stops-empty (decode v xs))
stops-length v xs (suc n) few l =
    let P = decode v xs in
    let e : printed_stops P (suc n) ≡ printed_stops P n ++ printed_stop P n = ap (printed_stops P) (sym (add-one n)) ∙ stops-snoc P n in
    rw (e, length-append, stops-length v xs n few (omega arith), stop-length v xs n few (omega arith)) (omega arith)

pub stops-none : (out : List ℕ) (P : Plan) → out ≡ written out 0 (printed_stops P 0)
stops-none out P = rw stops-empty (sym (written-nil out 0))

pub stops-more : (v n : ℕ) (xs : List ℕ) (old a b : List ℕ) (i : ℕ) → Sizes v n → i < n → n * 9 ≤ length old
    → a ≡ written old 0 (printed_stops (decode v xs) i) → b ≡ written a (i * 9) (printed_stop (decode v xs) i)
    → b ≡ written old 0 (printed_stops (decode v xs) (i + 1))
stops-more v n xs old a b i sizes l room e g =
    let P = decode v xs in
    rw (stops-snoc P i)
    (after old a b 0 (i * 9) (printed_stops P i) (printed_stop P i)
    (stops-length v xs i sizes.vehicles (omega (arith, sizes.stops))) (omega arith) e (rw zero-add g))

-- ---- the line of a run, and of a refusal

-- five numbers in 20 columns each, and a line feed
module _ (old : List ℕ) (at : ℕ) (room : at + 101 ≤ length old) (u v w x y : ℕ)
    (fu : u < 10 ^ 20) (fv : v < 10 ^ 20) (fw : w < 10 ^ 20) (fx : x < 10 ^ 20) (fy : y < 10 ^ 20) where
  five-printed : (a b c d e : List ℕ) → a ≡ written old at (columns 20 u) → b ≡ written a (at + 20) (columns 20 v)
      → c ≡ written b (at + 40) (columns 20 w) → d ≡ written c (at + 60) (columns 20 x) → e ≡ written d (at + 80) (columns 20 y)
      → set e (at + 100) line_feed ≡ written old at (line 20 (u ∷ v ∷ w ∷ x ∷ y ∷ []))
  unfolding line fields
  five-printed a b c d e ea eb ec ed ee =
      let p1 = columns 20 u in
      let p2 = p1 ++ columns 20 v in
      let p3 = p2 ++ columns 20 w in
      let p4 = p3 ++ columns 20 x in
      let p5 = p4 ++ columns 20 y in
      let l1 : length p1 ≡ 20 = columns-length 19 u fu in
      let l2 : length p2 ≡ 40 = rw (length-append p1 (columns 20 v), l1, columns-length 19 v fv) in
      let l3 : length p3 ≡ 60 = rw (length-append p2 (columns 20 w), l2, columns-length 19 w fw) in
      let l4 : length p4 ≡ 80 = rw (length-append p3 (columns 20 x), l3, columns-length 19 x fx) in
      let l5 : length p5 ≡ 100 = rw (length-append p4 (columns 20 y), l4, columns-length 19 y fy) in
      let gb : b ≡ written old at p2 = after old a b at 20 p1 (columns 20 v) l1 (omega arith) ea eb in
      let gc : c ≡ written old at p3 = after old b c at 40 p2 (columns 20 w) l2 (omega arith) gb ec in
      let gd : d ≡ written old at p4 = after old c d at 60 p3 (columns 20 x) l3 (omega arith) gc ed in
      let ge : e ≡ written old at p5 = after old d e at 80 p4 (columns 20 y) l4 (omega arith) gd ee in
      line-feed old e at 100 p5 l5 (omega arith) ge ∙ ap (written old at) (simp (append_assoc, append-nil))

pub totals-printed : (t : Totals) (old a b c d e : List ℕ) (at u v y : ℕ) → at + 101 ≤ length old
    → u < 10 ^ 20 → v < 10 ^ 20 → t.rounds < 10 ^ 20 → t.improving < 10 ^ 20 → y < 10 ^ 20
    → u ≡ amount t.start → v ≡ amount t.end → y ≡ cond t.settled 1 0
    → a ≡ written old at (columns 20 u) → b ≡ written a (at + 20) (columns 20 v) → c ≡ written b (at + 40) (columns 20 t.rounds)
    → d ≡ written c (at + 60) (columns 20 t.improving) → e ≡ written d (at + 80) (columns 20 y)
    → set e (at + 100) line_feed ≡ written old at (printed_totals t)
unfolding printed_totals
totals-printed t old a b c d e at u v y room fu fv fw fx fy eu ev ey ea eb ec ed ee =
    rw (← eu, ← ev, ← ey) (five-printed old at room u v t.rounds t.improving y fu fv fw fx fy a b c d e ea eb ec ed ee)

pub refusal-printed : (number : ℕ) (old a : List ℕ) → number < 10 ^ 20 → 21 ≤ length old → a ≡ written old 0 (columns 20 number)
    → Prints old (set a 20 line_feed) 21 (printed_refusal number)
unfolding printed_refusal line fields
refusal-printed number old a l room e =
    let w : length (columns 20 number) ≡ 20 = columns-length 19 number l in
    record {
      count = sym (simp (length-append, append-nil, w));
      same = line-feed old a 0 20 (columns 20 number) w (omega arith) e ∙ ap (written old 0) (simp append-nil);
    }

-- ---- a whole run

pub amount-small : (c : Float) → amount c < 10 ^ 20
unfolding Ieee.to_unsigned
amount-small nan = omega arith
amount-small (inf s) = tested s (λ b. rw b (omega arith)) (λ b. rw b (omega arith))
amount-small (fin s m e) = tested s (λ b. rw b (omega arith)) (λ b. rw b (omega arith))

flag_small : (b : Bool) → cond b 1 0 < 10 ^ 20
flag_small true = omega arith
flag_small false = omega arith

pub totals-length : (t : Totals) → t.rounds < 10 ^ 20 → t.improving < 10 ^ 20 → length (printed_totals t) ≡ 101
unfolding printed_totals line fields
totals-length t r i =
    simp (
      length-append,
      columns-length 19 (amount t.start) (amount-small t.start),
      columns-length 19 (amount t.end) (amount-small t.end),
      columns-length 19 t.rounds r,
      columns-length 19 t.improving i,
      columns-length 19 (cond t.settled 1 0) (flag_small t.settled),
    )

pub run-printed : (t : Totals) (v n : ℕ) (xs : List ℕ) (old a b : List ℕ) → Sizes v n → n * 9 + 101 ≤ length old
    → t.rounds < 10 ^ 20 → t.improving < 10 ^ 20
    → a ≡ written old 0 (printed_stops (decode v xs) n) → b ≡ written a (n * 9) (printed_totals t)
    → Prints old b (n * 9 + 101) (printed n (decode v xs) (Ok t))
unfolding printed printed_run printed_stops printed_totals
run-printed t v n xs old a b sizes room r i e g =
    let P = decode v xs in
    let w : length (printed_stops P n) ≡ n * 9 = stops-length v xs n sizes.vehicles sizes.stops in
    record {
      count = sym (length-append (printed_stops P n) (printed_totals t) ∙ ap (λ k. k + length (printed_totals t)) w ∙ ap (λ k. n * 9 + k) (totals-length t r i));
      same = after old a b 0 (n * 9) (printed_stops P n) (printed_totals t) w (omega arith) e (rw zero-add g);
    }

-- what is printed fits, since no byte is added
pub prints-within : (old new : List ℕ) (r : ℕ) (text : List ℕ) → Prints old new r text → length new ≡ length old → r ≤ length old
unfolding written
prints-within old new r text p l = omega (arith, p.count, simp (length-append, length-drop) at (ap length p.same))
