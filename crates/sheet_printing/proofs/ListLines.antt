-- Lines of numbers in 14 columns, the line of a cost, of a walk, of live stops and a cost, of a number of 64 bits and of a change.
use mathlib.Core.Path.{◌≡◌, sym, ◌∙◌, ap}
use mathlib.Core.List.{List, [], ◌∷◌, ◌++◌, append-nil, append_assoc}
use Prim.Native.Nat.{ℕ, ◌+◌, ◌*◌, ◌^◌, ◌≤◌, ◌<◌}
use native.Mathlib.Nat.{zero-add}
use native.Mathlib.Numerals.{add-one}
use native.Mathlib.Omega.{arith}
use lib.Ieee.{Float}
use lib.IntN.{ℤ}
use lib.ListN.{length, take, get_or, set, length-append, length-take}
use lib.Seq.{take-suc, take_all}
use mir.Syntax.{w64}
use mir.Val.{SFits, of_z, to_z}
use mir.ValLaws.{to_z-of_z}
use Rattle.model.specs.declared.Walk.{Walk}
use Rattle.model.specs.declared.Standing.{Standing}
use Rattle.model.specs.Whole.{amount}
use Rattle.model.specs.File.{line_feed, columns, signed_columns, fields, line, printed_refusal}
use Rattle.model.proofs.Columns.{columns-length}
use Rattle.model.proofs.Pieces.{Fitting, fitting-take, fields-length, fields-one, fields-append}
use Rattle.file_columns.specs.Put.{written}
use Rattle.file_columns.proofs.Puts.{written-nil}
use Rattle.file_columns.proofs.Signs.{signed-length}
use Rattle.file_printing.specs.Printing.{Prints}
use Rattle.sheet_printing.specs.Costs.{printed_cost, printed_walk, printed_standing, printed_number, printed_change}
use Rattle.file_printing.proofs.Pieces.{after, line-feed, amount-small, refusal-printed}

module _ (old : List ℕ) (at : ℕ) (list : List ℕ) (f : Fitting list) (room : at + (14 * length list + 1) ≤ length old) where
  pub list-none : old ≡ written old at (fields 14 (take 0 list))
  unfolding fields
  list-none = sym (written-nil old at)

  part_length : (i : ℕ) → i ≤ length list → length (fields 14 (take i list)) ≡ 14 * i
  part_length i h = fields-length (take i list) (fitting-take i f) ∙ ap (λ k. 14 * k) (length-take-le i h)
    where
      length-take-le : (i : ℕ) → i ≤ length list → length (take i list) ≡ i
      length-take-le i h = omega (arith, length-take i list)

  pub list-more : (i : ℕ) (a b : List ℕ) → i < length list → a ≡ written old at (fields 14 (take i list))
      → b ≡ written a (at + 14 * i) (columns 14 (get_or list i 0)) → b ≡ written old at (fields 14 (take (i + 1) list))
  list-more i a b h e g =
      rw (add-one, take-suc list i 0, fields-append, fields-one)
      (after old a b at (14 * i) (fields 14 (take i list)) (columns 14 (get_or list i 0)) (part_length i (omega arith)) (omega arith) e g)

  pub list-line : (i : ℕ) (a : List ℕ) → i ≡ length list → a ≡ written old at (fields 14 (take i list))
      → set a (at + 14 * length list) line_feed ≡ written old at (line 14 list)
  unfolding line
  list-line i a h e =
      line-feed old a at (14 * length list) (fields 14 (take i list)) (part_length i (omega arith) ∙ ap (λ k. 14 * k) h) (omega arith) e
      ∙ ap (λ l. written old at (fields 14 l ++ (line_feed ∷ []))) (take_all i list (omega arith))

pub cost-line : (c : Float) (w : ℕ) (old a : List ℕ) → w ≡ amount c → 21 ≤ length old → a ≡ written old 0 (columns 20 w)
    → set a 20 line_feed ≡ written old 0 (printed_cost c)
unfolding printed_cost printed_refusal
cost-line c w old a e room h = (refusal-printed (amount c) old a (amount-small c) room (h ∙ ap (λ k. written old 0 (columns 20 k)) e)).same

pub cost-length : (c : Float) → length (printed_cost c) ≡ 21
unfolding printed_cost line fields
cost-length c = simp (length-append, append-nil, columns-length 19 (amount c) (amount-small c))

pub number-line : (n : ℕ) (old a : List ℕ) → n < 10 ^ 20 → 21 ≤ length old → a ≡ written old 0 (columns 20 n) → set a 20 line_feed ≡ written old 0 (printed_number n)
unfolding printed_number printed_refusal
number-line n old a small room e = (refusal-printed n old a small room e).same

pub number-length : (n : ℕ) → n < 10 ^ 20 → length (printed_number n) ≡ 21
unfolding printed_number line fields
number-length n small = simp (length-append, append-nil, columns-length 19 n small)

-- a change that is read back from its bits is the same
pub change-line : (z : ℤ) (old a : List ℕ) → SFits w64 z → 21 ≤ length old → a ≡ written old 0 (signed_columns 20 (to_z w64 (of_z w64 z)))
    → set a 20 line_feed ≡ written old 0 (printed_change z)
unfolding printed_change
change-line z old a f room e =
    line-feed old a 0 20 (signed_columns 20 z) (signed-length z f.sfits) (omega arith) (e ∙ ap (λ x. written old 0 (signed_columns 20 x)) (to_z-of_z w64 z f))

pub change-length : (z : ℤ) → SFits w64 z → length (printed_change z) ≡ 21
unfolding printed_change
change-length z f = simp (length-append, signed-length z f.sfits)

pub walk-line : (w : Walk) (k : ℕ) (old a b c : List ℕ) → w.begun < 10 ^ 20 → w.completed < 10 ^ 20 → k ≡ amount w.cost → 61 ≤ length old
    → a ≡ written old 0 (columns 20 k) → b ≡ written a 20 (columns 20 w.begun) → c ≡ written b 40 (columns 20 w.completed)
    → set c 60 line_feed ≡ written old 0 (printed_walk w)
unfolding printed_walk line fields
walk-line w k old a b c small few e room ea eb ec =
    let p = columns 20 (amount w.cost) in
    let q = columns 20 w.begun in
    let s = columns 20 w.completed in
    let l : length p ≡ 20 = columns-length 19 (amount w.cost) (amount-small w.cost) in
    let both : length (p ++ q) ≡ 40 = rw (length-append p q, l, columns-length 19 w.begun small) in
    let all : length ((p ++ q) ++ s) ≡ 60 = rw (length-append (p ++ q) s, both, columns-length 19 w.completed few) in
    let two : b ≡ written old 0 (p ++ q) = after old a b 0 20 p q l (omega arith) (ea ∙ ap (λ x. written old 0 (columns 20 x)) e) eb in
    line-feed old c 0 60 ((p ++ q) ++ s) all (omega arith) (after old b c 0 40 (p ++ q) s both (omega arith) two ec)
    ∙ ap (written old 0) (simp (append_assoc, append-nil))

pub walk-length : (w : Walk) → w.begun < 10 ^ 20 → w.completed < 10 ^ 20 → length (printed_walk w) ≡ 61
unfolding printed_walk line fields
walk-length w small few =
    simp (length-append, append-nil, columns-length 19 (amount w.cost) (amount-small w.cost), columns-length 19 w.begun small, columns-length 19 w.completed few)

pub standing-line : (t : Standing) (w : ℕ) (old a b : List ℕ) → t.live < 10 ^ 20 → w ≡ amount t.cost → 41 ≤ length old
    → a ≡ written old 0 (columns 20 t.live) → b ≡ written a 20 (columns 20 w) → set b 40 line_feed ≡ written old 0 (printed_standing t)
unfolding printed_standing line fields
standing-line t w old a b small e room ea eb =
    let p = columns 20 t.live in
    let q = columns 20 (amount t.cost) in
    let l : length p ≡ 20 = columns-length 19 t.live small in
    let both : length (p ++ q) ≡ 40 = rw (length-append p q, l, columns-length 19 (amount t.cost) (amount-small t.cost)) in
    line-feed old b 0 40 (p ++ q) both (omega arith) (after old a b 0 20 p q l (omega arith) ea (eb ∙ ap (λ k. written a 20 (columns 20 k)) e))
    ∙ ap (written old 0) (simp (append_assoc, append-nil))

pub standing-length : (t : Standing) → t.live < 10 ^ 20 → length (printed_standing t) ≡ 41
unfolding printed_standing line fields
standing-length t small =
    simp (length-append, append-nil, columns-length 19 t.live small, columns-length 19 (amount t.cost) (amount-small t.cost))

pub one_piece : (old new text : List ℕ) (k : ℕ) → length text ≡ k → new ≡ written old 0 text → Prints old new k text
one_piece old new text k l e = record { count = sym l; same = e }

pub two-pieces : (old a new first second : List ℕ) (j k r : ℕ) → length first ≡ j → length second ≡ k → r ≡ j + k → r ≤ length old
    → a ≡ written old 0 first → new ≡ written a j second → Prints old new r (first ++ second)
two-pieces old a new first second j k r l m h room e g =
    record {
      count = omega (arith, length-append first second);
      same = after old a new 0 j first second l (omega arith) e (rw zero-add g);
    }
