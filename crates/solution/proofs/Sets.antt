-- The set of the stops of a list, one stop after another.
use Prim.Native.Nat.{ℕ, suc, ◌+◌, ◌^◌, ◌<◌}
use native.Mathlib.Omega.{arith}
use native.Mathlib.Numerals.{add-one}
use mathlib.Core.Path.{◌≡◌, refl, sym, ◌∙◌}
use mathlib.Core.Logic.{◌⊎◌, inl, inr, ◌≢◌}
use mathlib.Core.Bool.{Bool, true, false, cond}
use mathlib.Core.List.{List}
use lib.Dec.{eqb}
use lib.ListN.{length, get_or, take}
use lib.Seq.{take_all}
use Rattle.model.specs.Lists.{member, count, Once}
use Rattle.model.specs.StopSet.{including, stops_of}
use Rattle.model.proofs.Lists.{tested, member-count, count-member, absent-count, count-absent}
use Rattle.model.proofs.Counts.{count-more, count-take-le, length-kept}
use Rattle.stop_set.proofs.Laws.{count-including, member-contains, size-stops, stops-none}
use Rattle.solution.specs.Sets.{SetOf}

-- the set holds the stops of xs
abbrev pub Holds : List ℕ → ℕ → Type 0
Holds xs set = (s : ℕ) → count s (stops_of set) ≡ count s xs

pub holds-none : (xs : List ℕ) → Holds (take 0 xs) 0
holds-none xs s = rw stops-none

module _ (xs : List ℕ) (o : Once xs) (i set set' : ℕ) (h : i < length xs) (small : get_or xs i 0 < 64) where
  pub holds_more : set' ≡ including (get_or xs i 0) set → Holds (take i xs) set → Holds (take (i + 1) xs) set'
  holds_more e p s = rw (e, count-including s (get_or xs i 0) set small, add-one, count-more s xs i h) (go (tested s (get_or xs i 0)))
    where
      go : ((s ≡ get_or xs i 0) × (eqb s (get_or xs i 0) ≡ true)) ⊎ ((s ≢ get_or xs i 0) × (eqb s (get_or xs i 0) ≡ false))
          → cond (eqb s (get_or xs i 0)) 1 (count s (stops_of set)) ≡ count s (take i xs) + cond (eqb s (get_or xs i 0)) 1 0
      go (inl q) =
          let m : count s (take (suc i) xs) ≡ count s (take i xs) + 1 = count-more s xs i h ∙ rw q.1 in
          rw q.1 (omega (arith, m, count-take-le s (suc i) xs, o s))
      go (inr q) = rw q.1 (omega (arith, p s))

-- where two lists hold as many of each number, they have the same members
same-member : (s : ℕ) (xs ys : List ℕ) → count s xs ≡ count s ys → member s xs ≡ member s ys
same-member s xs ys e = go (member s ys) refl
  where
    go : (t : Bool) → member s ys ≡ t → member s xs ≡ t
    go true q = count-member s xs (omega (arith, member-count s ys q))
    go false q = count-absent s xs (omega (arith, absent-count s ys q))

pub set-of : (xs : List ℕ) (set : ℕ) → set < 2 ^ 64 → Holds xs set → SetOf xs set
set-of xs set h p =
    record {
      has = λ s k. sym (member-contains s set k) ∙ same-member s (stops_of set) xs (p s);
      size = size-stops set h ∙ length-kept (stops_of set) xs p;
      stops = p;
    }

-- the whole list
pub set-end : (xs : List ℕ) (i set : ℕ) → i ≡ length xs → set < 2 ^ 64 → Holds (take i xs) set → SetOf xs set
set-end xs i set e h p = let t : take i xs ≡ xs = take_all i xs (omega arith) in set-of xs set h (rw t at p)
