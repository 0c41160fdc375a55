-- What a round makes of the averages: of any costs, as f64 are calculated, and of whole ones, as the specification has it.
use Rattle.std.specs.Prelude.{◌≡◌, Bool, cond, ℕ, ◌≤◌, Float}
use Rattle.std.specs.Float.{binary64}
use Rattle.std.specs.Float.Ieee.{sub, lt}
use Rattle.model.specs.declared.Averages.{Averages}
use Rattle.model.specs.Whole.{whole, exact}
use Rattle.model.specs.Settle.{average, averaged}

abbrev pub both : Float → Float → Averages
both x y = record { delta = x; update = y }

-- both averages after a round whose gain is d: δ always, u where the round improves
abbrev pub moved : ℕ → Averages → Float → Bool → Averages
moved c a d improves = both (average c a.delta d) (cond improves (average c a.update d) a.update)

-- r are the averages after a round that takes the cost from `old` to `new`
pub record AfterRound (c : ℕ) (a : Averages) (old new : Float) (r : Averages) : Type 0 where
  pub floats : r ≡ moved c a (sub binary64 old new) (lt new old)
  pub numbers : (m k : ℕ) → m ≤ exact → k ≤ exact → old ≡ whole m → new ≡ whole k → r ≡ averaged c a m k
