-- The set of unplaced stops, made from the highest stop down.
use Prim.Native.Nat.{ℕ, suc, ◌-◌, ◌<◌, ◌≤◌}
use native.Mathlib.Omega.{arith}
use native.Mathlib.Nat.{sub-zero}
use mathlib.Core.Path.{◌≡◌, sym, ◌∙◌}
use mathlib.Core.Bool.{Bool, true, false, not}
use mathlib.Core.List.{◌∷◌}
use borrow.Author.Tests.{not-true, not-false}
use Rattle.model.specs.Lists.{concat, up_from}
use Rattle.model.specs.Plan.{Plan, is_placed}
use Rattle.model.specs.StopSet.{contains, including, set_of}
use Rattle.model.specs.Live.{unplaced_of}
use Rattle.model.specs.Vans.{unplaced, unplaced_set}
use Rattle.solution.specs.Sets.{SetOf}

-- the set of the unplaced stops from s up to n, without n
abbrev pub set_from : Plan → ℕ → ℕ → ℕ
set_from P n s = set_of (unplaced_of P (up_from s (n - s)))

module _ (P : Plan) (n : ℕ) where
  pub set-none : 0 ≡ set_from P n n
  set-none = let z : n - n ≡ 0 = omega arith in rw z

  pub set_all : set_from P n 0 ≡ unplaced_set n P
  unfolding unplaced_set unplaced
  set_all = rw sub-zero

  -- one stop more: what is known of it is whether the set of the placed stops has it
  module _ (placed : ℕ) (H : SetOf (concat P) placed) (few : n ≤ 64) (s set : ℕ) (h : 0 < s) (k : s ≤ n) (e : set ≡ set_from P n s)
      (has : Bool) (eh : has ≡ contains (s - 1) placed) where
    told : is_placed (s - 1) P ≡ has
    told = sym (eh ∙ H.has (s - 1) (omega arith))

    list-more : up_from (s - 1) (n - (s - 1)) ≡ (s - 1) ∷ up_from s (n - s)
    list-more =
        let a : n - (s - 1) ≡ suc (n - s) = omega arith in
        let b : suc (s - 1) ≡ s = omega arith in
        rw (a, b)

    -- a stop that is on a route is left out
    pub set-over : not has ≡ false → set ≡ set_from P n (s - 1)
    set-over f = rw (list-more, told, not-false has f) e

    -- another is put in
    pub set-in : not has ≡ true → (set' : ℕ) → set' ≡ including (s - 1) set → set' ≡ set_from P n (s - 1)
    set-in f set' e' = rw (list-more, told, not-true has f, ← e) e'
