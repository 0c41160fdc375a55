-- One turn of each loop of the crate: what a definition says of the list from place i on, said by what stands at i and the list from i + 1 on.
use Prim.Native.Nat.{ℕ, ◌+◌, ◌<◌}
use native.Mathlib.Omega.{arith}
use native.Mathlib.Numerals.{add-one}
use mathlib.Core.Path.{◌≡◌, refl, sym, ◌∙◌}
use mathlib.Core.Bool.{Bool, true, false, cond}
use mathlib.Core.List.{List, [], ◌∷◌}
use lib.Dec.{ltb, eqb}
use lib.ListN.{length, get_or, drop}
use lib.Seq.{drop-cons, drop-length}
use borrow.Author.Tests.{eq-eqb, ne_eqb, ltb-true, eqb-true}
use Rattle.std.specs.List.{fold, sum as std_sum}
use Rattle.std.specs.Ordering.{nat_cmp, is_lt, is_some_and}
use Rattle.std.specs.Cmp.Lexicographic.{slice_partial_cmp}
use Rattle.std.proofs.Common.{Some}
use Rattle.model.specs.Lists.{sum, lower, position}

-- the places from the i-th on, the first of them apart
pub from-here : (xs : List ℕ) (i : ℕ) → i < length xs → drop i xs ≡ get_or xs i 0 ∷ drop (i + 1) xs
from-here xs i h = rw add-one (drop-cons xs i 0 h)

-- no places are left
pub from_end : (xs : List ℕ) (i : ℕ) → i ≡ length xs → drop i xs ≡ []
from_end xs i e = rw e (drop-length xs)

-- ---- the lower of two lists

-- of two lists of one length the lower is the one that the library's order says
pub lower-cmp : (xs ys : List ℕ) → length xs ≡ length ys
    → is_some_and is_lt (slice_partial_cmp (λ x y. Some (nat_cmp x y)) xs ys) ≡ lower xs ys
lower-cmp [] [] h = refl
lower-cmp [] (y ∷ ys) h = absurd (omega arith)
lower-cmp (x ∷ xs) [] h = absurd (omega arith)
lower-cmp (x ∷ xs) (y ∷ ys) h = go (lower-cmp xs ys (omega arith)) (ltb x y) (eqb x y) refl refl
  where
    go : is_some_and is_lt (slice_partial_cmp (λ x y. Some (nat_cmp x y)) xs ys) ≡ lower xs ys → (s t : Bool) → ltb x y ≡ s → eqb x y ≡ t
        → is_some_and is_lt (slice_partial_cmp (λ x y. Some (nat_cmp x y)) (x ∷ xs) (y ∷ ys)) ≡ cond t (lower xs ys) s
    go e true true p q = absurd (omega (arith, ltb-true x y p, eqb-true x y q))
    go e true false p q = rw p
    go e false true p q = rw (p, q) e
    go e false false p q = rw (p, q)

-- ---- a sum

-- the library's sum is the model's
pub sum-is : (xs : List ℕ) → std_sum xs ≡ sum xs
sum-is xs = from 0 xs ∙ omega arith
  where
    from : (a : ℕ) (xs : List ℕ) → fold (λ b x. b + x) a xs ≡ a + sum xs
    from a [] = omega arith
    from a (x ∷ xs) = from (a + x) xs ∙ omega arith

-- ---- the first place of x

module _ (x : ℕ) (xs : List ℕ) (i : ℕ) where
  pub none_left : i ≡ length xs → position x (drop i xs) ≡ 0
  none_left e = rw (from_end xs i e)

  module _ (h : i < length xs) where
    pub at_once : get_or xs i 0 ≡ x → position x (drop i xs) ≡ 0
    at_once e = rw (from-here xs i h, eq-eqb x (get_or xs i 0) (sym e))

    pub later : (get_or xs i 0 ≡ x → ⊥) → position x (drop i xs) ≡ 1 + position x (drop (i + 1) xs)
    later f = rw (from-here xs i h, ne_eqb x (get_or xs i 0) (λ e. f (sym e))) (omega arith)
