-- The plans whose arrangements are counted: all stops on the first route, with a gap that is all of it and an empty gap on each other route,
-- or with no gap.
use Prim.Native.Nat.{ℕ, zero, suc, ◌≤◌}
use native.Mathlib.Omega.{arith}
use mathlib.Core.Path.{◌≡◌, refl, ap, ap₂, ◌∙◌}
use mathlib.Core.Logic.{inl, inr}
use mathlib.Core.Bool.{Bool, true, ◌&&◌, and-eq-true_iff}
use mathlib.Core.List.{List, [], ◌∷◌}
use lib.Dec.{ltb, leb}
use lib.ListN.{length, get_or, replicate}
use borrow.Author.Tests.{ltb-true, leb-true}
use Rattle.model.specs.Lists.{In, all_once}
use Rattle.model.specs.Plan.{Plan, route_of, decode}
use Rattle.model.specs.declared.Region.{Region}
use Rattle.model.specs.Region.{drained, vehicles_of, Stretch}
use Rattle.model.specs.Legs.{LegTable}
use Rattle.model.specs.Rebuild.{begun, completed, arrangement_count}
use Rattle.model.proofs.Counts.{all_once-once}
use Rattle.model.proofs.Fillings.{begun-count, completed-count}
use Rattle.model.proofs.Members.{once-distinct}
use Rattle.solution.specs.declared.plan.Plan as held
use Rattle.solution.specs.Held.{numbers_of, routes}
use Rattle.solution.proofs.Holding.{read-routes}
use Rattle.rebuild_words.specs.Gaps.{Gapped}

-- a table of no distances
zeros : (n i : ℕ) → ◌≡◌ {A = ℕ} (get_or (replicate n 0) i 0) 0
zeros zero i = refl
zeros (suc n) zero = refl
zeros (suc n) (suc i) = zeros n i

pub no-legs : LegTable (replicate 6400 0)
no-legs = record { long = refl; small = λ i. rw (zeros 6400 i) (omega arith) }

-- whether a region is a stretch of a route, and whether each of some is
abbrev is_stretch : Plan → Region → Bool
is_stretch P g = ltb g.vehicle (length P) && (leb g.from g.to && leb g.to (length (route_of P g.vehicle)))

abbrev all_stretches : Plan → List Region → Bool
all_stretches P [] = true
all_stretches P (g ∷ gs) = is_stretch P g && all_stretches P gs

tested : (P : Plan) (gs : List Region) → all_stretches P gs ≡ true → (g : Region) → In g gs → Stretch P g
tested P [] e g h = absurd h
tested P (u ∷ gs) e g (inr h) = tested P gs ((and-eq-true_iff (is_stretch P u) (all_stretches P gs)).0 e).1 g h
tested P (u ∷ gs) e g (inl h) =
    let a = (and-eq-true_iff (ltb u.vehicle (length P)) _).0 ((and-eq-true_iff (is_stretch P u) (all_stretches P gs)).0 e).0 in
    let b = (and-eq-true_iff (leb u.from u.to) _).0 a.1 in
    rw h (record {
      known = ltb-true u.vehicle (length P) a.0;
      ordered = leb-true u.from u.to b.0;
      within = leb-true u.to (length (route_of P u.vehicle)) b.1;
    })

-- a gap that is the first n stops of the first route, and an empty one at the front of another route
abbrev pub first : ℕ → Region
first n = record { vehicle = 0; from = 0; to = n }

abbrev pub later : ℕ → Region
later k = record { vehicle = k; from = 0; to = 0 }

-- regions of the plan that is held from a lent form, both of which pass the tests
module _ (v n : ℕ) (xs : List ℕ) (p : held.Plan) (h : (p.v ≡ v) × (p.n ≡ n) × (numbers_of p ≡ xs)) (regions : List Region) where
  same : routes p ≡ decode v xs
  same = read-routes v xs p h.0 h.2

  pub gapped : length regions ≤ 3 → all_once (vehicles_of regions) ≡ true → all_stretches (decode v xs) regions ≡ true → Gapped p regions
  gapped f o s = record {
    few = f;
    stretches = record {
      apart = once-distinct (vehicles_of regions) (all_once-once (vehicles_of regions) o);
      each = rw same (tested (decode v xs) regions s);
    };
  }

  -- how many stops they drain
  pub drains : (m : ℕ) → length (drained (decode v xs) regions) ≡ m → length (drained (routes p) regions) ≡ m
  drains m e = rw same e

-- six stops in three regions
pub six-in-three : (P : Plan) (gs : List Region) → length gs ≡ 3 → length (drained P gs) ≡ 6 → (begun P gs ≡ 1957) × (completed P gs ≡ 42079)
six-in-three P gs e m = (
  begun-count P gs (omega arith) ∙ ap (arrangement_count 1) m,
  completed-count P gs (omega arith) ∙ ap₂ arrangement_count e m,
)
