-- Whole fillings: their words, and the one that a call of the walk stands at.
use Prim.Native.Nat.{ℕ, zero, suc, ◌+◌, ◌≤◌}
use native.Mathlib.Omega.{arith}
use mathlib.Core.Path.{◌≡◌, refl, ap, ◌∙◌}
use mathlib.Core.List.{List, [], ◌∷◌, ◌++◌, map}
use lib.ListN.{length, length-append, length-replicate, length-map}
use Rattle.model.specs.Lists.{up_from, count, concat}
use Rattle.model.specs.Plan.{Plan}
use Rattle.model.specs.declared.Region.{Region}
use Rattle.model.specs.Region.{drained_from, drained}
use Rattle.model.proofs.Lists.{count-append, concat-append, length-up_from, up_from-append}
use Rattle.model.proofs.Counts.{length-le}
use Rattle.model.proofs.Members.{count-in}
use Rattle.rebuild_fillings.specs.Walk.{Filling, empties, own_from, own, Standing}
use Rattle.rebuild_fillings.specs.Rows.{word_of, filling_of, Full, Worded}
use Rattle.rebuild_fillings.proofs.Places.{in-up_from}
use Rattle.rebuild_fillings.proofs.Rows.{Places}
use Rattle.rebuild_fillings.proofs.Reading.{read_back}

module _ (p m : ℕ) (xs : Filling) (f : Full p m xs) where
  -- every number is a place
  pub full-places : m ≤ 7 → Places xs
  full-places h i k = let r = in-up_from i 1 m (count-in i (up_from 1 m) (omega (arith, f.each i))) in omega arith

  pub full-few : length (concat xs) ≤ m
  full-few = omega (arith, length-le (concat xs) (up_from 1 m) f.each, length-up_from 1 m)

  -- its word is read back
  pub full-worded : p ≤ 3 → m ≤ 7 → (w : ℕ) → w ≡ word_of xs → (filling_of w ≡ xs) × Worded p m w
  full-worded hp hm w e =
      let r : filling_of w ≡ xs = ap filling_of e ∙ read_back xs (omega (arith, f.gaps)) (omega (arith, full-few)) (full-places hm) in
      (r, record { full = rw r f; says = rw r e })

none_in : (i k : ℕ) → count i (concat (empties k)) ≡ 0
none_in i zero = refl
none_in i (suc k) = none_in i k

module _ (m q : ℕ) (left : List ℕ) (done : Filling) (here : List ℕ) (st : Standing m q left done here) where
  -- what a call stands at, with the later gaps empty
  pub padded-full : (k : ℕ) → Full (q + suc k) m (done ++ here ∷ empties k)
  padded-full k = record {
    gaps = rw (length-append, length-replicate) (omega (arith, st.gaps));
    each = λ i. rw (concat-append, count-append, count-append) (omega (arith, st.each i, none_in i k));
  }

-- the places where the regions' own stops stand
count-own : (i : ℕ) (xs : List (List ℕ)) (j : ℕ) → count i (concat (own_from j xs)) ≡ count i (up_from j (length (concat xs)))
count-own i [] j = refl
count-own i (x ∷ xs) j =
    omega (
      arith,
      count-append i (up_from j (length x)) (concat (own_from (j + length x) xs)),
      count-own i xs (j + length x),
      ap (count i) (ap (up_from j) (length-append x (concat xs)) ∙ up_from-append j (length x) (length (concat xs))),
      count-append i (up_from j (length x)) (up_from (j + length x) (length (concat xs))),
    )

length-own : (xs : List (List ℕ)) (j : ℕ) → length (own_from j xs) ≡ length xs
length-own [] j = refl
length-own (x ∷ xs) j = ap suc (length-own xs (j + length x))

pub own-full : (P : Plan) (gs : List Region) → Full (length gs) (length (drained P gs)) (own P gs)
own-full P gs = record { gaps = length-own (map (drained_from P) gs) 1 ∙ length-map gs (drained_from P); each = λ i. omega (arith, count-own i (map (drained_from P) gs) 1) }
