-- What the parts of a frame say together.
use Rattle.std.specs.Prelude.{◌≡◌, ℕ, ◌≤◌, ◌<◌, List, [], ◌∷◌, length, take, drop}
use Rattle.std.proofs.Props.{props}
use Rattle.model.specs.Lists.{Distinct}
use Rattle.model.specs.Plan.{placed}
use Rattle.model.specs.declared.Region.{Region}
use Rattle.model.specs.Region.{drained, vehicles_of}
use Rattle.solution.specs.declared.plan.Plan.{Plan}
use Rattle.solution.specs.Held.{routes}
use Rattle.rebuild_words.specs.Gaps.{Gapped}

-- The parts of a frame belong together: there are p gaps, which are the first p regions; the plan places k stops; and of the listed stops, the m
-- from place 1 on are those that the regions drain, at most seven.
pub record Framed (p k m : ℕ) (regions : List Region) (listed : List ℕ) (plan : Plan) : Type 0 where
  pub spans : length regions ≡ 3
  pub places : length listed ≡ 8
  pub some : 0 < p
  pub gaps : p ≡ length (take p regions)
  pub gapped : Gapped plan (take p regions)
  pub few : m ≤ 7
  pub stops : take m (drop 1 listed) ≡ drained (routes plan) (take p regions)
  pub placed : k ≡ placed (routes plan)

-- A fact that a struct keeps must have one proof at most. That of `Distinct` goes by recursion, so it is shown here.
pub Distinct-prop : {A : Type 0} (xs : List A) → IsProp (Distinct xs)
Distinct-prop [] = hlevel props
Distinct-prop (x ∷ xs) = hlevel (Distinct-prop xs, props)

pub Framed-prop : (p k m : ℕ) (regions : List Region) (listed : List ℕ) (plan : Plan) → IsProp (Framed p k m regions listed plan)
Framed-prop p k m regions listed plan = hlevel (Distinct-prop (vehicles_of (take p regions)), props)
