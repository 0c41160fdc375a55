-- The ends of routes that are cut, and what is known of them.
use Rattle.std.specs.Prelude.{◌≡◌, ℕ, ◌+◌, ◌*◌, ◌≤◌, ◌<◌, List, reverse, take, drop}
use Rattle.model.specs.Plan.{Route}
use Rattle.model.specs.Legs.{depot}
use Rattle.distance.specs.Ways.{walked, walked_back, last_place}
use Rattle.two_opt_cuts.specs.declared.End.{End}
use Rattle.two_opt_cuts.specs.declared.Ends.{Ends}
use Rattle.two_opt_cuts.specs.declared.Cut.{Cut}
use Rattle.two_opt_cuts.specs.declared.Cuts.{Cuts}

-- e is measured on vehicle k along the stops xs, the last of which is at the cut
pub record EndOf (t : List ℕ) (k : ℕ) (xs : Route) (e : End) : Type 0 where
  pub joint : e.joint ≡ last_place (depot k) xs
  pub out : e.out ≡ walked t (depot k) xs
  pub back : e.back ≡ walked_back t (depot k) xs

-- on vehicles a and b
abbrev pub EndsOf : List ℕ → ℕ → ℕ → Route → Ends → Type 0
EndsOf t a b xs e = EndOf t a xs e.first × EndOf t b xs e.second

-- an end as one of m stops or fewer has it
pub record Short (m : ℕ) (e : End) : Type 0 where
  pub near : e.joint < 80
  pub out : e.out ≤ m * 200000
  pub back : e.back ≤ m * 200000

abbrev pub Shorts : ℕ → Ends → Type 0
Shorts m e = Short m e.first × Short m e.second

-- c is route r cut before the stop at i
pub record CutAt (t : List ℕ) (a b : ℕ) (r : Route) (i : ℕ) (c : Cut) : Type 0 where
  pub head : EndsOf t a b (take i r) c.head
  pub tail : EndsOf t a b (reverse (drop i r)) c.tail

-- the same for the cut before the stop at i, and the cut after it
abbrev pub CutBy : List ℕ → ℕ → ℕ → Route → ℕ → Cuts → Type 0
CutBy t a b r i c = CutAt t a b r i c.before × CutAt t a b r (i + 1) c.after

-- the cuts of the reversed route
abbrev pub reversed_cuts : Cuts → Cuts
reversed_cuts c =
    record { before = record { head = c.after.tail; tail = c.after.head }; after = record { head = c.before.tail; tail = c.before.head } }
