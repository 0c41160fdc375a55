-- Which of two plans is preferred, test by test.
use Prim.Native.Nat.{ℕ, ◌≤◌, ◌<◌}
use mathlib.Core.Path.{◌≡◌, sym, ◌∙◌}
use mathlib.Core.Bool.{Bool, true, false}
use lib.Dec.{eqb, ltb}
use lib.Ieee.{Float}
use borrow.Author.Tests.{eq-eqb, ne_eqb, lt-ltb, le-ltb}
use Rattle.model.specs.Lists.{lower}
use Rattle.model.specs.Whole.{amount}
use Rattle.model.specs.Job.{Job, stop_count}
use Rattle.model.specs.Plan.{placed, encode}
use Rattle.model.specs.Plan as form
use Rattle.model.specs.Cost.{cost}
use Rattle.model.specs.Rebuild.{better}
use Rattle.solution.specs.declared.plan.Plan.{Plan}
use Rattle.solution.specs.Held.{routes}
use Rattle.pruned.specs.Search.{wins_tie, preferred, Winner}

-- it is what the choice prefers
pub preferred-better : (J : Job) (n a : ℕ) (P : form.Plan) (b : ℕ) (Q : form.Plan) → stop_count J ≡ n → a ≡ cost J P → b ≡ cost J Q → preferred n a P b Q ≡ better J P Q
unfolding preferred better
preferred-better J n a P b Q en ea eb = rw (← en, ea, eb)

module _ (n : ℕ) (P Q : form.Plan) where
  -- more stops, fewer, or as many
  module _ (p q : ℕ) (here : placed P ≡ p) (there : placed Q ≡ q) where
    pub more : q < p → ltb q p ≡ wins_tie n P Q
    unfolding wins_tie
    more h = rw (here, there, lt-ltb q p h)

    module _ (h : p ≤ q) where
      pub fewer : (p ≡ q → ⊥) → eqb p q ≡ wins_tie n P Q
      unfolding wins_tie
      fewer f = rw (here, there, le-ltb q p h, ne_eqb p q f)

      pub as_many : p ≡ q → (b : Bool) → b ≡ lower (encode n P) (encode n Q) → b ≡ wins_tie n P Q
      unfolding wins_tie
      as_many e b g = rw (here, there, le-ltb q p h, eq-eqb p q e) g

  -- less, more, or the same cost
  module _ (a b : ℕ) (f : Bool) (e : f ≡ ltb a b) where
    pub cheaper : f ≡ true → f ≡ preferred n a P b Q
    unfolding preferred
    cheaper h = rw (sym e ∙ h) h

    module _ (h : f ≡ false) (g : Bool) (e' : g ≡ eqb a b) where
      pub dearer : g ≡ false → g ≡ preferred n a P b Q
      unfolding preferred
      dearer k = rw (sym e ∙ h, sym e' ∙ k) k

      pub tied : g ≡ true → (w : Bool) → w ≡ wins_tie n P Q → w ≡ preferred n a P b Q
      unfolding preferred
      tied k w q = rw (sym e ∙ h, sym e' ∙ k) q

-- ---- the one that is kept

module _ (plan : Plan) (a : Float) (best : Plan) (b : Float) (f : Bool) (e : f ≡ preferred plan.n (amount a) (routes plan) (amount b) (routes best)) where
  pub kept_new : f ≡ true → Winner plan a best b plan a
  kept_new h = record { choice = rw (← e, h); cost = rw (← e, h) }

  pub kept-old : f ≡ false → Winner plan a best b best b
  kept-old h = record { choice = rw (← e, h); cost = rw (← e, h) }
