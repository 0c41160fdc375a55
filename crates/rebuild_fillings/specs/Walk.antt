-- The walk through the arrangements, gap by gap: what it meets and in which order, and how often it is called in each gap.
use Rattle.std.specs.Prelude.{ℕ, suc, ◌+◌, ◌-◌, cond, List, [], ◌∷◌, ◌++◌, map, ltb, length, get_or, replicate, ◌≡◌}
use Rattle.model.specs.Lists.{up_from, without, for_each, concat, count}
use Rattle.model.specs.Plan.{Plan}
use Rattle.model.specs.declared.Region.{Region}
use Rattle.model.specs.Region.{drained_from, drained}
use Rattle.model.specs.Rebuild.{fillings, replaced, arrangement_count}

-- a sequence of stops for each gap
abbrev pub Filling : Type 0
Filling = List (List ℕ)

-- nothing in k gaps
abbrev pub empties : ℕ → Filling
empties k = replicate k []

-- ---- what extends what is placed

-- sequences for gap q and the later ones, put behind what is placed
abbrev pub onto : Filling → List ℕ → Filling → Filling
onto done here [] = done
onto done here (x ∷ xs) = done ++ (here ++ x) ∷ xs

-- the fillings that extend what is placed, in order
unfoldable pub fillings_from : ℕ → ℕ → List ℕ → Filling → List ℕ → List Filling
fillings_from p q left done here = map (onto done here) (fillings (p - q) left)

-- those that go on with one of the stops `next` in gap q
unfoldable pub fillings_at : ℕ → ℕ → List ℕ → Filling → List ℕ → List ℕ → List Filling
unfolding fillings_from
fillings_at p q left done here next = for_each next λ s. fillings_from p q (without s left) done (here ++ s ∷ [])

-- their plans, where `plan` says what plan a filling makes
unfoldable pub plans_from : (Filling → Plan) → ℕ → ℕ → List ℕ → Filling → List ℕ → List Plan
unfolding fillings_from
plans_from plan p q left done here = map plan (fillings_from p q left done here)

unfoldable pub plans_at : (Filling → Plan) → ℕ → ℕ → List ℕ → Filling → List ℕ → List ℕ → List Plan
unfolding fillings_at
plans_at plan p q left done here next = map plan (fillings_at p q left done here next)

-- ---- stops by their place among those that are drained

-- the stop at a place, from 1 on
abbrev pub stop_at : List ℕ → ℕ → ℕ
stop_at all i = get_or all (i - 1) 0

-- a filling with the stops for their places
abbrev pub named : List ℕ → Filling → Filling
named all xs = map (map (stop_at all)) xs

-- the plan of a filling by places
abbrev pub plan_at : Plan → List Region → Filling → Plan
plan_at P gs xs = replaced P gs (named (drained P gs) xs)

-- the places of the stops of lists one after another, from place i on
abbrev pub own_from : ℕ → List (List ℕ) → Filling
own_from i [] = []
own_from i (x ∷ xs) = up_from i (length x) ∷ own_from (i + length x) xs

-- the places where the stops of the regions stand
abbrev pub own : Plan → List Region → Filling
own P gs = own_from 1 (map (drained_from P) gs)

-- A call in gap q: `done` and `here` are sequences of some of the places 1 to m, and `left` are the others.
pub record Standing (m q : ℕ) (left : List ℕ) (done : Filling) (here : List ℕ) : Type 0 where
  pub gaps : length done ≡ q
  pub each : (i : ℕ) → count i (concat done) + (count i here + count i left) ≡ count i (up_from 1 m)

-- ---- how many

-- the number of calls in gap r from a call in gap q with m stops left
unfoldable pub call_count : ℕ → ℕ → ℕ → ℕ
call_count r q m = cond (ltb r q) 0 (arrangement_count (suc r - q) m)
