-- A run as the averages see it: the cost that it begins with, `old`, and the list of the costs that its rounds leave.
use Rattle.std.specs.Prelude.{◌≡◌, false, cond, List, [], ◌∷◌, ℕ, suc, ◌+◌, ◌*◌, ◌≤◌, ltb, length}
use Rattle.model.specs.declared.Averages.{Averages}
use Rattle.model.specs.Whole.{exact}
use Rattle.model.specs.Settle.{no_averages, averaged, settles}

-- no round raises the cost
abbrev pub Falls : ℕ → List ℕ → Type 0
Falls old [] = Unit {0}
Falls old (new ∷ costs) = (new ≤ old) × Falls new costs

-- how many rounds improve
abbrev pub improving : ℕ → List ℕ → ℕ
improving old [] = 0
improving old (new ∷ costs) = cond (ltb new old) 1 0 + improving new costs

-- the averages that the rounds leave, from a on
abbrev pub after : ℕ → Averages → ℕ → List ℕ → Averages
after c a old [] = a
after c a old (new ∷ costs) = after c (averaged c a old new) new costs

-- With the averages a and so many rounds done, the run goes on for all rounds of the list: the stopping rule holds before none of them.
abbrev pub Goes : ℕ → ℕ → Averages → ℕ → List ℕ → Type 0
Goes c done a old [] = Unit {0}
Goes c done a old (new ∷ costs) = (settles done a ≡ false) × Goes c (suc done) (averaged c a old new) new costs

-- A run that begins with no averages, and that the stopping rule would end before none of its rounds, has at most 10 + (7 * c + 1) * i of them, where i improve.
abbrev pub FewRounds : Type 0
FewRounds =
    (c old : ℕ) (costs : List ℕ) → 1 ≤ c → c ≤ 1000 → old ≤ exact → Falls old costs → Goes c 0 no_averages old costs
    → length costs ≤ 10 + (7 * c + 1) * improving old costs
