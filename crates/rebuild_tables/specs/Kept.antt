-- What a walk keeps.
use Rattle.std.specs.Prelude.{◌≡◌, ℕ, ◌+◌, ◌<◌, get_or, slice_set}
use Rattle.rebuild_tables.specs.declared.Kept.{Kept}

-- how often the walk was called in gap r, of at most three
abbrev pub calls_in : Kept → ℕ → ℕ
calls_in kept r = get_or kept.calls r 0

-- before a walk: no call was counted, and no word noted
pub record Fresh (best most : ℕ) (kept : Kept) : Type 0 where
  pub word : kept.best ≡ best
  pub placed : kept.most ≡ most
  pub uncalled : (r : ℕ) → r < 3 → calls_in kept r ≡ 0
  pub empty : kept.trail ≡ 0

-- one call more was counted in gap q, and all else stays
pub record Counted (q : ℕ) (before after : Kept) : Type 0 where
  pub calls : after.calls ≡ slice_set before.calls q (calls_in before q + 1)
  pub best : after.best ≡ before.best
  pub most : after.most ≡ before.most
  pub trail : after.trail ≡ before.trail
