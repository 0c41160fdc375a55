-- Where the legs of a table of ways begin or end, written one after another.
use mathlib.Core.Path.{◌≡◌, refl, sym, ap, ◌∙◌, subst}
use Prim.Native.Nat.{ℕ, ◌+◌, ◌-◌, ◌≤◌, ◌<◌}
use native.Mathlib.Omega.{arith}
use native.Mathlib.Decide.{dec_lt, ℕ_discrete}
use mathlib.Core.Bool.{cond}
use mathlib.Core.List.{List}
use lib.Dec.{ltb}
use lib.ListN.{length, get_or, set, replicate, length-set}
use lib.Seq.{get_or-set_same, get_or-set_other}
use borrow.Author.Tests.{lt-ltb, le-ltb}
use Rattle.rebuild_tables.specs.declared.frame.Frame.{Frame}
use Rattle.rebuild_arrange.specs.Prepared.{Endable, EndsOf}
use Rattle.rebuild_arrange.proofs.Zeros.{zeros-small}

-- the end at place i
abbrev pub end_at : Frame → List ℕ → ℕ → ℕ
end_at f known i = cond (ltb i 8) (get_or f.listed i 0) (get_or known (i - 8) 0)

-- those before place i are written
pub record Ending (f : Frame) (known : List ℕ) (i : ℕ) (r : List ℕ) : Type 0 where
  pub long : length r ≡ 16
  pub from : 1 ≤ i
  pub up_to : i ≤ 11
  pub done : (j : ℕ) → 1 ≤ j → j < i → get_or r j 0 ≡ end_at f known j
  pub small : (j : ℕ) → get_or r j 0 < 80

pub ending-none : (f : Frame) (known : List ℕ) → Ending f known 1 (replicate 16 0)
ending-none f known = record { long = refl; from = omega arith; up_to = omega arith; done = λ j a b. absurd (omega arith); small = zeros-small 80 (omega arith) 16 }

module _ (f : Frame) (known : List ℕ) (E : Endable f known) where
  end-stop : (i : ℕ) → i < 8 → end_at f known i ≡ get_or f.listed i 0
  end-stop i h = rw (lt-ltb i 8 h)

  end-gap : (i : ℕ) → 8 ≤ i → end_at f known i ≡ get_or known (i - 8) 0
  end-gap i h = rw (le-ltb i 8 h)

  end-small : (i : ℕ) → 1 ≤ i → i < 11 → end_at f known i < 80
  end-small i a b = go (dec_lt i 8)
    where
      go : Dec (i < 8) → end_at f known i < 80
      go (yes h) = rw (end-stop i h) (E.stops i)
      go (no h) = rw (end-gap i (omega arith)) (E.gaps (i - 8) (omega arith))

  ending-more : (i : ℕ) (r : List ℕ) → Ending f known i r → i < 11 → (x : ℕ) → x ≡ end_at f known i
      → Ending f known (i + 1) (set r i x)
  ending-more i r D h x e = record {
    long = length-set r i x ∙ D.long;
    from = omega arith;
    up_to = omega arith;
    done = λ j a b. go j a b (dec_lt j i);
    small = λ j. near j (ℕ_discrete i j);
  }
    where
      here : get_or (set r i x) i 0 ≡ end_at f known i
      here = get_or-set_same r i x 0 (omega (arith, D.long)) ∙ e

      go : (j : ℕ) → 1 ≤ j → j < i + 1 → Dec (j < i) → get_or (set r i x) j 0 ≡ end_at f known j
      go j a b (yes l) = get_or-set_other r i j x 0 (λ y. omega arith) ∙ D.done j a l
      go j a b (no l) = let k : i ≡ j = omega arith in subst (λ (y : ℕ). get_or (set r i x) y 0 ≡ end_at f known y) k here

      near : (j : ℕ) → Dec (i ≡ j) → get_or (set r i x) j 0 < 80
      near j (yes k) = subst (λ (y : ℕ). get_or (set r i x) y 0 < 80) k (rw here (end-small i D.from h))
      near j (no k) = rw (get_or-set_other r i j x 0 (λ y. k (sym y))) (D.small j)

  pub ending-stop : (i : ℕ) (r : List ℕ) → Ending f known i r → i < 8 → (r' : List ℕ) → r' ≡ set r i (get_or f.listed i 0) → Ending f known (i + 1) r'
  ending-stop i r D h r' e = rw e (ending-more i r D (omega arith) (get_or f.listed i 0) (sym (end-stop i h)))

  pub ending-gap : (i : ℕ) (r : List ℕ) → Ending f known i r → i < 11 → 8 ≤ i → (r' : List ℕ) → r' ≡ set r i (get_or known (i - 8) 0)
      → Ending f known (i + 1) r'
  ending-gap i r D h k r' e = rw e (ending-more i r D h (get_or known (i - 8) 0) (sym (end-gap i k)))

  pub ending-all : (i : ℕ) (r : List ℕ) → Ending f known i r → 11 ≤ i → EndsOf f known r
  ending-all i r D h = record {
    stops = λ j a b. D.done j a (omega arith) ∙ end-stop j b;
    gaps = λ q k.
        let e : 8 + q - 8 ≡ q = omega arith in
        D.done (8 + q) (omega arith) (omega arith) ∙ end-gap (8 + q) (omega arith) ∙ ap (λ (x : ℕ). get_or known x 0) e;
    small = D.small;
  }
