-- Words as lists: how some stops are placed in gaps one after another. A placement is one number, gap × 64 + stop; the gaps never go down.
-- The walk's words are single numbers, which are read into such lists where a plan is composed (rebuild_fillings: `placements`).
use Rattle.std.specs.Prelude.{ℕ, ◌+◌, ◌*◌, ◌/◌, ◌%◌, cond, List, [], ◌∷◌, map, eqb, length}
use Rattle.model.specs.Lists.{up_from}
use Rattle.model.specs.Plan.{Plan}
use Rattle.model.specs.declared.Region.{Region}
use Rattle.model.specs.Rebuild.{replaced}

abbrev pub Word : Type 0
Word = List ℕ

-- stop s is placed in gap q
abbrev pub code : ℕ → ℕ → ℕ
code q s = q * 64 + s

-- the stops that a word places in gap q, in order
unfoldable pub in_gap : ℕ → Word → List ℕ
in_gap q [] = []
in_gap q (c ∷ w) = cond (eqb (c / 64) q) (c % 64 ∷ in_gap q w) (in_gap q w)

-- the sequences of g gaps from gap q on
unfoldable pub sequences_of : ℕ → ℕ → Word → List (List ℕ)
unfolding in_gap
sequences_of q g w = map (λ r. in_gap r w) (up_from q g)

-- the plan that a word stands for: the regions of P hold what the word places in them
unfoldable pub plan_of : Plan → List Region → Word → Plan
unfolding sequences_of
plan_of P gs w = replaced P gs (sequences_of 0 (length gs) w)
