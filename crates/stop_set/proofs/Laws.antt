-- Laws of sets of stops, over the list of a set's stops.
use mathlib.Core.Path.{◌≡◌, refl, sym, ap, ap₂, subst, ◌∙◌}
use mathlib.Core.Bool.{Bool, cond}
use mathlib.Core.Logic.{inl, inr}
use mathlib.Core.List.{List, [], ◌∷◌}
use Prim.Native.Nat.{ℕ, zero, suc, ◌+◌, ◌-◌, ◌*◌, ◌/◌, ◌%◌, ◌^◌, ◌≤◌, ◌<◌}
use native.Mathlib.Nat.{pow-suc, add-zero, zero-add, one-mul}
use native.Mathlib.Decide.{ℕ_discrete, dec_lt}
use native.Mathlib.Omega.{arith}
use lib.Arith.{lt-one}
use lib.Count.{ones, ones_step, count_trailing_zeros, under}
use lib.Pow.{pow_pos}
use lib.Dec.{eqb}
use lib.ListN.{length}
use borrow.Author.Tests.{eq-eqb, ne_eqb}
use Rattle.model.specs.Lists.{count, member, without, up_from, Once}
use Rattle.model.proofs.Lists.{Tested, tested, one_same, one-other, count-member, count-absent, without-absent, count-without, length_without}
use Rattle.model.specs.StopSet.{bit, contains, excluding, including, cons_if, stops_from, stops_of}
use Rattle.stop_set.specs.Answers.{First}
use Rattle.stop_set.proofs.Digits.{bit-zero, bit-suc, excluding-half, excluding-low, excluding-half0, excluding-low0, bit-excluding-same, bit-excluding-other, bit-including-same, bit-including-other}

-- ---- lists

without-same : (x y : ℕ) (l : List ℕ) → x ≡ y → without x (y ∷ l) ≡ l
without-same x y l e = rw (eq-eqb x y e)

without_other : (x y : ℕ) (l : List ℕ) → (x ≡ y → ⊥) → without x (y ∷ l) ≡ y ∷ without x l
without_other x y l f = rw (ne_eqb x y f)

-- each number of a list is lower than all that follow it
abbrev pub Increasing : List ℕ → Type 0
Increasing [] = Unit {0}
Increasing (x ∷ l) = ((y : ℕ) → 1 ≤ count y l → x < y) × Increasing l

-- ---- a digit at a time

digit : (set : ℕ) → set % 2 < 2
digit set = omega arith

length-cons_if : (b s : ℕ) (l : List ℕ) → b < 2 → length (cons_if b s l) ≡ b + length l
length-cons_if zero s l h = omega arith
length-cons_if (suc b) s l h = omega arith

count-cons_if : (b s : ℕ) (l : List ℕ) → b < 2 → count s (cons_if b s l) ≡ b + count s l
count-cons_if zero s l h = omega arith
count-cons_if (suc b) s l h = omega (arith, one_same s s refl)

count-cons_if-other : (b s t : ℕ) (l : List ℕ) → (t ≡ s → ⊥) → count t (cons_if b s l) ≡ count t l
count-cons_if-other zero s t l f = refl
count-cons_if-other (suc b) s t l f = omega (arith, one-other t s f)

without-cons_if : (b s t : ℕ) (l : List ℕ) → t ≡ s → count t l ≡ 0 → without t (cons_if b s l) ≡ l
without-cons_if zero s t l p e = without-absent t l (count-absent t l e)
without-cons_if (suc b) s t l p e = without-same t s l p

without-cons_if-other : (b s t : ℕ) (l : List ℕ) → (t ≡ s → ⊥) → without t (cons_if b s l) ≡ cons_if b s (without t l)
without-cons_if-other zero s t l f = refl
without-cons_if-other (suc b) s t l f = without_other t s l f

increasing-cons_if : (b s : ℕ) (l : List ℕ) → ((y : ℕ) → 1 ≤ count y l → s < y) → Increasing l → Increasing (cons_if b s l)
increasing-cons_if zero s l h i = i
increasing-cons_if (suc b) s l h i = (h, i)

-- ---- the stops of the lowest d digits, the lowest of which stands for stop i

count_under : (d i t set : ℕ) → t < i → count t (stops_from d i set) ≡ 0
unfolding stops_from
count_under zero i t set h = refl
count_under (suc d) i t set h =
    count-cons_if-other (set % 2) i t (stops_from d (suc i) (set / 2)) (λ e. omega arith)
    ∙ count_under d (suc i) t (set / 2) (omega arith)

count-over : (d i t set : ℕ) → i + d ≤ t → count t (stops_from d i set) ≡ 0
unfolding stops_from
count-over zero i t set h = refl
count-over (suc d) i t set h =
    count-cons_if-other (set % 2) i t (stops_from d (suc i) (set / 2)) (λ e. omega arith)
    ∙ count-over d (suc i) t (set / 2) (omega arith)

count-at : (d i s set : ℕ) → s < d → count (i + s) (stops_from d i set) ≡ bit s set
unfolding stops_from
count-at zero i s set h = absurd (omega arith)
count-at (suc d) i zero set h =
    let rest = stops_from d (suc i) (set / 2) in
    let a = count-cons_if (set % 2) i rest (digit set) in
    let b = count_under d (suc i) i (set / 2) (omega arith) in
    ap (λ (x : ℕ). count x (cons_if (set % 2) i rest)) (add-zero i) ∙ omega (arith, bit-zero set)
count-at (suc d) i (suc s) set h =
    count-cons_if-other (set % 2) i (i + suc s) (stops_from d (suc i) (set / 2)) (λ e. omega arith)
    ∙ ap (λ (x : ℕ). count x (stops_from d (suc i) (set / 2))) (omega arith)
    ∙ count-at d (suc i) s (set / 2) (omega arith)
    ∙ sym (bit-suc s set)

increasing-from : (d i set : ℕ) → Increasing (stops_from d i set)
unfolding stops_from
increasing-from zero i set = tt
increasing-from (suc d) i set =
    increasing-cons_if (set % 2) i (stops_from d (suc i) (set / 2)) above (increasing-from d (suc i) (set / 2))
  where
    above : (y : ℕ) → 1 ≤ count y (stops_from d (suc i) (set / 2)) → i < y
    above y h =
        elim (dec_lt i y) [
          | yes k ↦ k
          | no f ↦ absurd (let c = count_under d (suc i) y (set / 2) (omega arith) in omega arith)
        ]

from-excluding : (d i s set : ℕ) → stops_from d i (excluding s set) ≡ without (i + s) (stops_from d i set)
unfolding stops_from
from-excluding zero i s set = refl
from-excluding (suc d) i zero set =
    ap₂ (λ (x y : ℕ). cons_if x i (stops_from d (suc i) y)) (excluding-low0 set) (excluding-half0 set)
    ∙ sym (without-cons_if (set % 2) i (i + 0) (stops_from d (suc i) (set / 2)) (add-zero i) (count_under d (suc i) (i + 0) (set / 2) (omega arith)))
from-excluding (suc d) i (suc s) set =
    ap₂ (λ (x y : ℕ). cons_if x i (stops_from d (suc i) y)) (excluding-low s set) (excluding-half s set)
    ∙ ap (cons_if (set % 2) i) (from-excluding d (suc i) s (set / 2))
    ∙ ap (λ (x : ℕ). cons_if (set % 2) i (without x (stops_from d (suc i) (set / 2)))) (omega arith)
    ∙ sym (without-cons_if-other (set % 2) i (i + suc s) (stops_from d (suc i) (set / 2)) (λ e. omega arith))

half_lt : {set : ℕ} (d : ℕ) → set < 2 ^ suc d → set / 2 < 2 ^ d
half_lt d h = let e : 2 ^ suc d ≡ 2 ^ d * 2 = pow-suc 2 d in omega arith

size-from : (d i set : ℕ) → set < 2 ^ d → length (stops_from d i set) ≡ ones set
unfolding stops_from ones
size-from zero i set h = sym (ap ones (lt-one h))
size-from (suc d) i set h =
    length-cons_if (set % 2) i (stops_from d (suc i) (set / 2)) (digit set)
    ∙ ap (λ (x : ℕ). set % 2 + x) (size-from d (suc i) (set / 2) (half_lt d h)) ∙ sym (ones_step set)

-- the lowest digits all 1, and none above them
from-none : (d i : ℕ) → stops_from d i 0 ≡ []
unfolding stops_from
from-none zero i = refl
from-none (suc d) i = from-none d (suc i)

from-below : (d i n : ℕ) → n ≤ d → stops_from d i (2 ^ n - 1) ≡ up_from i n
unfolding stops_from
from-below d i zero h = from-none d i
from-below zero i (suc n) h = absurd (omega arith)
from-below (suc d) i (suc n) h =
    let p = pow_pos n in
    let e : 2 ^ suc n ≡ 2 ^ n * 2 = pow-suc 2 n in
    let low : (2 ^ suc n - 1) % 2 ≡ 1 = omega arith in
    let half : (2 ^ suc n - 1) / 2 ≡ 2 ^ n - 1 = omega arith in
    ap₂ (λ (x y : ℕ). cons_if x i (stops_from d (suc i) y)) low half
    ∙ ap (λ (l : List ℕ). i ∷ l) (from-below d (suc i) n (omega arith))

-- ---- the stops of a set

pub count-stops : (s set : ℕ) → s < 64 → count s (stops_of set) ≡ bit s set
count-stops s set h = ap (λ (x : ℕ). count x (stops_of set)) (sym (zero-add s)) ∙ count-at 64 0 s set h

pub count-beyond : (s set : ℕ) → 64 ≤ s → count s (stops_of set) ≡ 0
count-beyond s set h = count-over 64 0 s set (omega arith)

pub stops-once : (set : ℕ) → Once (stops_of set)
stops-once set s =
    elim (dec_lt s 64) [
      | yes h ↦ let c = count-stops s set h in omega arith
      | no f ↦ let c = count-beyond s set (omega arith) in omega arith
    ]

pub stops-small : (set s : ℕ) → 1 ≤ count s (stops_of set) → s < 64
stops-small set s h =
    elim (dec_lt s 64) [
      | yes k ↦ k
      | no f ↦ absurd (let c = count-beyond s set (omega arith) in omega arith)
    ]

-- what is counted of a stop goes by its digit
count-digit : (s a b : ℕ) → bit s a ≡ bit s b → count s (stops_of a) ≡ count s (stops_of b)
count-digit s a b e =
    elim (dec_lt s 64) [
      | yes h ↦ count-stops s a h ∙ e ∙ sym (count-stops s b h)
      | no f ↦ count-beyond s a (omega arith) ∙ sym (count-beyond s b (omega arith))
    ]

count-out : (s set : ℕ) → bit s set ≡ 0 → count s (stops_of set) ≡ 0
count-out s set e =
    elim (dec_lt s 64) [
      | yes h ↦ count-stops s set h ∙ e
      | no f ↦ count-beyond s set (omega arith)
    ]

pub member-contains : (s set : ℕ) → s < 64 → member s (stops_of set) ≡ contains s set
member-contains s set h = go (tested (bit s set) 1)
  where
    go : Tested (bit s set) 1 → member s (stops_of set) ≡ contains s set
    go (inl e) = count-member s (stops_of set) (omega (arith, count-stops s set h, e.0)) ∙ sym e.1
    go (inr e) = count-absent s (stops_of set) (omega (arith, count-stops s set h, e.0)) ∙ sym e.1

pub stops-increasing : (set : ℕ) → Increasing (stops_of set)
stops-increasing set = increasing-from 64 0 set

pub stops-none : stops_of 0 ≡ []
stops-none = from-none 64 0

pub stops-below : (n : ℕ) → n ≤ 64 → stops_of (2 ^ n - 1) ≡ up_from 0 n
stops-below n h = from-below 64 0 n h

pub size-stops : (set : ℕ) → set < 2 ^ 64 → ones set ≡ length (stops_of set)
size-stops set h = sym (size-from 64 0 set h)

-- ---- a stop taken out

pub stops-excluding : (s set : ℕ) → stops_of (excluding s set) ≡ without s (stops_of set)
stops-excluding s set = from-excluding 64 0 s set ∙ ap (λ (x : ℕ). without x (stops_of set)) (zero-add s)

pub count-excluding : (t s set : ℕ) → count t (stops_of (excluding s set)) ≡ cond (eqb t s) 0 (count t (stops_of set))
count-excluding t s set =
    elim (ℕ_discrete t s) [
      | yes p ↦
          count-out t (excluding s set) (ap (λ (x : ℕ). bit x (excluding s set)) p ∙ bit-excluding-same s set)
          ∙ sym (ap (λ (b : Bool). cond b 0 (count t (stops_of set))) (eq-eqb t s p))
      | no f ↦
          count-digit t (excluding s set) set (bit-excluding-other t s set f)
          ∙ sym (ap (λ (b : Bool). cond b 0 (count t (stops_of set))) (ne_eqb t s f))
    ]

-- the set that is left where a stop of it is taken out
module _ (set s rest : ℕ) (h : 1 ≤ count s (stops_of set)) (e : rest ≡ excluding s set) where
  pub taken-list : stops_of rest ≡ without s (stops_of set)
  taken-list = ap stops_of e ∙ stops-excluding s set

  pub taken-size : length (stops_of set) ≡ suc (length (stops_of rest))
  taken-size = rw taken-list (sym (length_without s (stops_of set) (count-member s (stops_of set) h)))

  pub taken-count : (t : ℕ) → count t (stops_of rest) + cond (eqb t s) 1 0 ≡ count t (stops_of set)
  taken-count t = rw taken-list (count-without s t (stops_of set) (count-member s (stops_of set) h))

-- ---- a stop put in

-- a stop that is put in and taken out again leaves the set as it was
pub excluding-including : (s set : ℕ) → bit s set ≡ 0 → excluding s (including s set) ≡ set
excluding-including s set e =
    ap (λ (b : ℕ). including s set - b * 2 ^ s) (bit-including-same s set)
    ∙ ap₂ (λ (x y : ℕ). set + (1 - x) * 2 ^ s - y) e (one-mul (2 ^ s))
    ∙ ap (λ (x : ℕ). set + x - 2 ^ s) (one-mul (2 ^ s))
    ∙ omega arith

pub count-including : (t s set : ℕ) → s < 64 → count t (stops_of (including s set)) ≡ cond (eqb t s) 1 (count t (stops_of set))
count-including t s set h =
    elim (ℕ_discrete t s) [
      | yes p ↦
          ap (λ (x : ℕ). count x (stops_of (including s set))) p
          ∙ count-stops s (including s set) h
          ∙ bit-including-same s set
          ∙ sym (ap (λ (b : Bool). cond b 1 (count t (stops_of set))) (eq-eqb t s p))
      | no f ↦
          count-digit t (including s set) set (bit-including-other t s set f)
          ∙ sym (ap (λ (b : Bool). cond b 1 (count t (stops_of set))) (ne_eqb t s f))
    ]

pub size-including : (s set : ℕ) → s < 64 → bit s set ≡ 0 → length (stops_of (including s set)) ≡ suc (length (stops_of set))
size-including s set h e =
    taken-size (including s set) s (excluding s (including s set)) (let c = count-stops s (including s set) h in let b = bit-including-same s set in omega arith) refl
    ∙ ap (λ (x : ℕ). suc (length (stops_of x))) (excluding-including s set e)

-- ---- the lowest stop

record LowAt (d i set t : ℕ) : Type 0 where
  list : stops_from d i set ≡ (i + t) ∷ stops_from d i (excluding t set)
  small : t < d
  has : bit t set ≡ 1

low-odd : (d i set : ℕ) → set % 2 ≡ 1 → LowAt (suc d) i set 0
unfolding stops_from
low-odd d i set e = record {
  list =
      ap (λ (b : ℕ). cons_if b i (stops_from d (suc i) (set / 2))) e
      ∙ ap₂ {C = List ℕ} (λ (x : ℕ) (l : List ℕ). x ∷ l) (sym (add-zero i))
      (sym (ap₂ (λ (x y : ℕ). cons_if x i (stops_from d (suc i) y)) (excluding-low0 set) (excluding-half0 set)));
  small = omega arith;
  has = bit-zero set ∙ e;
}

low-even : (d i set t : ℕ) → set % 2 ≡ 0 → LowAt d (suc i) (set / 2) t → LowAt (suc d) i set (suc t)
unfolding stops_from
low-even d i set t e l = record {
  list =
      ap (λ (b : ℕ). cons_if b i (stops_from d (suc i) (set / 2))) e
      ∙ l.list
      ∙ ap₂ {C = List ℕ} (λ (x : ℕ) (r : List ℕ). x ∷ r) (omega arith)
      (sym (ap₂ (λ (x y : ℕ). cons_if x i (stops_from d (suc i) y)) (excluding-low t set ∙ e) (excluding-half t set)));
  small = let h = l.small in omega arith;
  has = bit-suc t set ∙ l.has;
}

low : (d i set : ℕ) → set < 2 ^ d → 0 < set → LowAt d i set (count_trailing_zeros d set)
unfolding count_trailing_zeros
low zero i set h p = absurd (omega arith)
low (suc d) i set h p = go (set % 2) refl (digit set) (λ q. low d (suc i) (set / 2) (half_lt d h) q)
  where
    go : (b : ℕ) → set % 2 ≡ b → b < 2 → (0 < set / 2 → LowAt d (suc i) (set / 2) (count_trailing_zeros d (set / 2)))
        → LowAt (suc d) i set (under b (count_trailing_zeros d (set / 2)))
    go zero e k r = low-even d i set (count_trailing_zeros d (set / 2)) e (r (omega arith))
    go (suc b) e k r = low-odd d i set (omega arith)

-- the stops of a set that is not empty: the lowest, and the rest
pub stops_first : (set : ℕ) → set < 2 ^ 64 → 0 < set → First set (count_trailing_zeros 64 set)
stops_first set h p =
    let l = low 64 0 set h p in
    record {
      list = l.list ∙ ap (λ (x : ℕ). x ∷ stops_of (excluding (count_trailing_zeros 64 set) set)) (zero-add (count_trailing_zeros 64 set));
      small = l.small;
      «in» = eq-eqb (bit (count_trailing_zeros 64 set) set) 1 l.has;
    }

-- it is lower than the others
pub first-lower : (set s : ℕ) → First set s → (t : ℕ) → 1 ≤ count t (stops_of (excluding s set)) → s < t
first-lower set s h = (subst Increasing h.list (stops-increasing set)).0

-- a set that it is taken out of is smaller
pub first-less : (set s rest : ℕ) → First set s → rest ≡ excluding s set → length (stops_of rest) < length (stops_of set)
first-less set s rest h e = omega (arith, ap length h.list, ap (λ (x : ℕ). length (stops_of x)) e)

-- ---- lists that hold the same numbers in increasing order are the same

pub same-increasing : (a b : List ℕ) → Increasing a → Increasing b → ((x : ℕ) → count x a ≡ count x b) → a ≡ b
same-increasing [] [] i j e = refl
same-increasing [] (y ∷ b) i j e = absurd (omega (arith, one_same y y refl, e y))
same-increasing (x ∷ a) [] i j e = absurd (omega (arith, one_same x x refl, e x))
same-increasing (x ∷ a) (y ∷ b) i j e = ap₂ {C = List ℕ} (λ (z : ℕ) (l : List ℕ). z ∷ l) p (same-increasing a b i.1 j.1 rest)
  where
    p : x ≡ y
    p =
        elim (ℕ_discrete x y) [
          | yes q ↦ q
          | no f ↦
              let under : y < x = j.0 x (omega (arith, one_same x x refl, one-other x y f, e x)) in
              let over : x < y = i.0 y (omega (arith, one_same y y refl, one-other y x (λ q. f (sym q)), e y)) in
              absurd (omega arith)
        ]

    rest : (z : ℕ) → count z a ≡ count z b
    rest z = omega (arith, e z, ap (λ (w : ℕ). count z (w ∷ b)) p)
