-- What a plan that is held says, and what becomes of it.
use Rattle.std.specs.Prelude.{◌≡◌, ℕ, ◌+◌, List, take}
use Rattle.model.specs.Plan.{decode, encode}
use Rattle.model.specs.Plan as form
use Rattle.solution.specs.declared.plan.Plan.{Plan}

-- the numbers of its lent form
abbrev pub numbers_of : Plan → List ℕ
numbers_of p = take (p.v + p.n) p.numbers

-- its routes
abbrev pub routes : Plan → form.Plan
routes p = decode p.v (numbers_of p)

-- a plan of so many vehicles and stops with these routes
pub record Holds (v n : ℕ) (P : form.Plan) (p : Plan) : Type 0 where
  pub vehicles : p.v ≡ v
  pub stops : p.n ≡ n
  pub form : numbers_of p ≡ encode n P

-- the same plan with other routes
abbrev pub Becomes : Plan → Plan → form.Plan → Type 0
Becomes old new P = Holds old.v old.n P new

-- a plan of as many vehicles and stops
abbrev pub SizesKept : Plan → Plan → Type 0
SizesKept old new = (new.v ≡ old.v) × (new.n ≡ old.n)
