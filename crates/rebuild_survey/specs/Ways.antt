-- Ways over the leg table up to a gap and on from it.
use Rattle.std.specs.Prelude.{◌≡◌, ℕ, ◌≤◌, ◌<◌, List, [], ◌∷◌, take, drop}
use Rattle.model.specs.Plan.{Route}
use Rattle.model.specs.Legs.{depot}
use Rattle.distance.specs.Ways.{table_legs, walked, last_place}
use Rattle.rebuild_survey.specs.declared.Way.{Way}
use Rattle.rebuild_survey.specs.declared.Gap.{Gap}

-- the first stop of a route, or `to` for an empty route
abbrev pub first_place : ℕ → Route → ℕ
first_place to [] = to
first_place to (s ∷ r) = s

-- the way from the first stop of a route through the others to a last place
unfoldable pub way_on : List ℕ → Route → ℕ → ℕ
unfolding table_legs
way_on t [] to = 0
way_on t (s ∷ r) to = table_legs t s r to

-- w is the way from a place to the last stop of r
pub record Stepped (t : List ℕ) (a : ℕ) (r : Route) (w : Way) : Type 0 where
  pub length : w.length ≡ walked t a r
  pub last : w.last ≡ last_place a r
  pub near : w.last < 80
  pub short : w.length ≤ 12800000

-- g is known of the gap of vehicle k's route from one position up to another
pub record Measured (t : List ℕ) (k : ℕ) (r : Route) (from to : ℕ) (g : Gap) : Type 0 where
  pub before : g.before ≡ last_place (depot k) (take from r)
  pub after : g.after ≡ first_place (depot k) (drop to r)
  pub head : g.head ≡ walked t (depot k) (take from r)
  pub rest : g.rest ≡ way_on t (drop to r) (depot k)
  pub near : (g.before < 80) × (g.after < 80)
