-- The number that a view answers is the set of the unplaced stops.
use Prim.Native.Nat.{ℕ, zero, suc, ◌+◌, ◌<◌, ◌≤◌}
use native.Mathlib.Omega.{arith}
use native.Mathlib.Decide.{dec_lt}
use mathlib.Core.Path.{◌≡◌, refl, ap, ◌∙◌}
use mathlib.Core.Logic.{inl, inr}
use mathlib.Core.Bool.{Bool, true, false, cond}
use mathlib.Core.List.{List, [], ◌∷◌}
use lib.Dec.{eqb}
use Rattle.model.specs.Lists.{up_from, count}
use Rattle.model.specs.Plan.{Plan, is_placed}
use Rattle.model.specs.StopSet.{stops_of, set_of}
use Rattle.model.specs.Live.{unplaced_of}
use Rattle.model.specs.Vans.{unplaced, unplaced_set}
use Rattle.model.proofs.Lists.{Tested, tested, one_same, count-up_from-out}
use Rattle.model.proofs.Counts.{Below, up_from-below}
use Rattle.stop_set.proofs.Laws.{Increasing, stops-increasing, stops-none, count-including, same-increasing}

-- ---- the stops that are on no route, lowest first

unplaced_of-le : (P : Plan) (s : ℕ) (ss : List ℕ) → count s (unplaced_of P ss) ≤ count s ss
unplaced_of-le P s [] = omega arith
unplaced_of-le P s (t ∷ ss) = go (is_placed t P) (unplaced_of-le P s ss)
  where
    go : (b : Bool) → count s (unplaced_of P ss) ≤ count s ss → count s (cond b (unplaced_of P ss) (t ∷ unplaced_of P ss)) ≤ count s (t ∷ ss)
    go true ih = omega arith
    go false ih = omega arith

unplaced_of-increasing : (P : Plan) (ss : List ℕ) → Increasing ss → Increasing (unplaced_of P ss)
unplaced_of-increasing P [] i = tt
unplaced_of-increasing P (s ∷ ss) i = go (is_placed s P) (unplaced_of-increasing P ss i.1)
  where
    go : (b : Bool) → Increasing (unplaced_of P ss) → Increasing (cond b (unplaced_of P ss) (s ∷ unplaced_of P ss))
    go true ih = ih
    go false ih = (λ y h. i.0 y (omega (arith, unplaced_of-le P y ss)), ih)

increasing-up_from : (a n : ℕ) → Increasing (up_from a n)
increasing-up_from a zero = tt
increasing-up_from a (suc n) = (above, increasing-up_from (suc a) n)
  where
    above : (y : ℕ) → 1 ≤ count y (up_from (suc a) n) → a < y
    above y h = elim (dec_lt a y) [ yes k ↦ k | no f ↦ absurd (omega (arith, count-up_from-out y (suc a) n (inl (omega arith)))) ]

-- ---- as one number

-- the stops of the set of a list of stops are the list
stops-set_of : (xs : List ℕ) → Increasing xs → Below 64 xs → stops_of (set_of xs) ≡ xs
stops-set_of xs i b = same-increasing (stops_of (set_of xs)) xs (stops-increasing (set_of xs)) i (λ t. counted t xs i b)
  where
    counted : (t : ℕ) (xs : List ℕ) → Increasing xs → Below 64 xs → count t (stops_of (set_of xs)) ≡ count t xs
    counted t [] i b = ap (count t) stops-none
    counted t (s ∷ ss) i b =
        count-including t s (set_of ss) (b s (omega (arith, one_same s s refl)))
        ∙ go (tested t s) (counted t ss i.1 (λ y k. b y (omega arith))) (λ k. i.0 s k)
      where
        go : Tested t s → count t (stops_of (set_of ss)) ≡ count t ss → (1 ≤ count s ss → s < s)
            → cond (eqb t s) 1 (count t (stops_of (set_of ss))) ≡ cond (eqb t s) 1 0 + count t ss
        go (inl q) ih gone =
            let none : count t ss ≡ 0 = rw q.0 (elim (dec_lt 0 (count s ss)) [ yes k ↦ absurd (omega (arith, gone k)) | no f ↦ omega arith ]) in
            rw q.1 (omega arith)
        go (inr q) ih gone = rw q.1 (omega arith)

-- the set that a view answers has the unplaced stops, and no others
pub unplaced_set-stops : (n : ℕ) (P : Plan) → n ≤ 64 → stops_of (unplaced_set n P) ≡ unplaced n P
unfolding unplaced_set
unplaced_set-stops n P h =
    stops-set_of (unplaced_of P (up_from 0 n)) (unplaced_of-increasing P (up_from 0 n) (increasing-up_from 0 n))
    (λ s k. omega (arith, up_from-below n s (omega (arith, unplaced_of-le P s (up_from 0 n)))))
