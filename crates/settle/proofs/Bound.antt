-- The bound on the rounds of a run: 10, and 7 * c + 1 more for each that improves.
use mathlib.Core.Bool.{cond}
use mathlib.Core.List.{List, [], ◌∷◌}
use Prim.Native.Nat.{ℕ, suc, ◌+◌, ◌≤◌}
use native.Mathlib.Nat.{le_trans, add_assoc, add-suc, suc-add, add-zero, zero-add}
use lib.Dec.{ltb}
use lib.ListN.{length}
use Rattle.model.specs.declared.Averages.{Averages}
use Rattle.model.specs.Whole.{exact}
use Rattle.model.specs.Settle.{no_averages, averaged}
use Rattle.settle.specs.Costs.{Falls, improving, after, Goes, FewRounds}
use Rattle.settle.proofs.Going.{Going, going_start, going_next, going-bound}

-- what is known before the rounds is known after them, too
pub going : (c done i old : ℕ) (a : Averages) (costs : List ℕ) → old ≤ exact → Falls old costs → Goes c done a old costs → Going c done i a
    → Going c (done + length costs) (i + improving old costs) (after c a old costs)
going c done i old a [] E F G k = simp add-zero k
going c done i old a (new ∷ costs) E F G k =
    simp (add-suc, ← suc-add, ← add_assoc)
    (going c (suc done) (i + cond (ltb new old) 1 0) new (averaged c a old new) costs (le_trans F.0 E) F.1 G.1 (going_next c done i old new a E F.0 G.0 k))

pub few_rounds : FewRounds
few_rounds c old costs C D E F G =
    simp zero-add at
    (going-bound c (0 + length costs) (0 + improving old costs) (after c no_averages old costs) (going c 0 0 old no_averages costs E F G (going_start c C D)))
