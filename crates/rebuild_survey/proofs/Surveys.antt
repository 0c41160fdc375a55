-- Gaps that are measured and written one after another.
use Prim.Native.Nat.{ℕ, ◌+◌, ◌≤◌, ◌<◌}
use native.Mathlib.Omega.{arith}
use native.Mathlib.Decide.{dec_lt}
use mathlib.Core.Path.{◌≡◌, refl, sym, ◌∙◌, subst}
use mathlib.Core.List.{List, []}
use lib.ListN.{length, get_or, drop, set, length-set}
use lib.Seq.{get_or-set_same, get_or-set_other, drop-set-lt}
use Rattle.model.specs.Lists.{concat}
use Rattle.model.specs.Plan.{Route, route_of}
use Rattle.model.specs.declared.Region.{Region}
use Rattle.model.proofs.Counts.{count-route, length-le}
use Rattle.model.proofs.PlanForm.{lent_length, lent_placed}
use Rattle.distance.specs.Ways.{Drivable}
use Rattle.distance.specs.declared.legs.Legs.{Legs}
use Rattle.solution.specs.declared.plan.Plan.{Plan}
use Rattle.solution.specs.Held.{routes}
use Rattle.rebuild_words.proofs.Gaps.{stretch-at}
use Rattle.rebuild_words.specs.Gaps.{no_region, Gapped}
use Rattle.rebuild_survey.specs.declared.Gap.{Gap}
use Rattle.rebuild_survey.specs.Ways.{Measured}
use Rattle.rebuild_survey.specs.Surveys.{Surveyed-at, Surveyed, Unsurveyed}

-- ---- one gap after another

-- what stands past the end of a list of gaps
abbrev none : Gap
none = record { before = 0; after = 0; head = 0; rest = 0 }

-- the gaps before q are written, and the rest is as it was
pub record Surveying (t : Legs) (p : Plan) (regions : List Region) (gaps₀ : List Gap) (q : ℕ) (gaps : List Gap) : Type 0 where
  pub up_to : q ≤ length regions
  pub done : (r : ℕ) → r < q → Surveyed-at t p regions gaps r
  pub past : (i : ℕ) → q ≤ i → drop i gaps ≡ drop i gaps₀
  pub long : length gaps ≡ 3

module _ (t : Legs) (p : Plan) (regions : List Region) (gaps₀ : List Gap) where
  pub surveying-none : length gaps₀ ≡ 3 → Surveying t p regions gaps₀ 0 gaps₀
  surveying-none e = record { up_to = omega arith; done = λ r h. absurd (omega arith); past = λ i h. refl; long = e }

  pub surveying-more : (q : ℕ) (gaps : List Gap) → Surveying t p regions gaps₀ q gaps → q < length regions → q < 3
      → (r : Route) → r ≡ route_of (routes p) (get_or regions q no_region).vehicle
      → (g : Gap) → Measured t.table (get_or regions q no_region).vehicle r (get_or regions q no_region).from (get_or regions q no_region).to g
      → Surveying t p regions gaps₀ (q + 1) (set gaps q g)
  surveying-more q gaps S h few r₀ er g M = record {
    up_to = omega arith;
    done = λ r k. go r k (dec_lt r q);
    past = λ i k. drop-set-lt i gaps q g (omega arith) ∙ S.past i (omega arith);
    long = length-set gaps q g ∙ S.long;
  }
    where
      over : ℕ → Gap → Type 0
      over r = let u = get_or regions r no_region in Measured t.table u.vehicle (route_of (routes p) u.vehicle) u.from u.to

      this : over q g
      this = let u = get_or regions q no_region in subst (λ (r : Route). Measured t.table u.vehicle r u.from u.to g) er M

      go : (r : ℕ) → r < q + 1 → Dec (r < q) → Surveyed-at t p regions (set gaps q g) r
      go r k (yes l) = subst (over r) (sym (get_or-set_other gaps q r g none (omega arith))) (S.done r l)
      go r k (no l) =
          let e : r ≡ q = omega arith in
          subst (λ (x : ℕ). Surveyed-at t p regions (set gaps q g) x) (sym e)
          (subst (over q) (sym (get_or-set_same gaps q g none (omega (arith, S.long)))) this)

  pub surveyed : (q : ℕ) (gaps : List Gap) → Surveying t p regions gaps₀ q gaps → length regions ≤ q
      → Surveyed t p regions gaps × Unsurveyed regions gaps₀ gaps
  surveyed q gaps S h = (λ r k. S.done r (omega arith), S.past (length regions) (omega (arith, S.up_to)))

-- ---- the region of a turn

-- region q lies on a route that can be driven
pub record Turn (p : Plan) (regions : List Region) (q : ℕ) : Type 0 where
  pub few : q < 3
  pub known : (get_or regions q no_region).vehicle < p.v
  pub narrow : p.v ≤ 16
  pub ordered : (get_or regions q no_region).from ≤ (get_or regions q no_region).to
  pub within : (get_or regions q no_region).to ≤ length (route_of (routes p) (get_or regions q no_region).vehicle)
  pub drivable : Drivable (route_of (routes p) (get_or regions q no_region).vehicle)

pub turn : (p : Plan) (regions : List Region) → Gapped p regions → (q : ℕ) → q < length regions → Turn p regions q
turn p regions G q h =
    let k : ℕ = (get_or regions q no_region).vehicle in
    let s = stretch-at (routes p) regions no_region G.stretches [] q h in
    record {
      few = omega (arith, G.few);
      known = omega (arith, s.known, lent_length p.v p.n _ p.lent);
      narrow = p.sizes.vehicles;
      ordered = s.ordered;
      within = s.within;
      drivable = record {
        few = omega (arith, length-le (route_of (routes p) k) (concat (routes p)) (λ x. count-route x (routes p) k), lent_placed p.v p.n _ p.lent, p.sizes.stops);
        stops = λ x g. omega (arith, p.lent.below x (omega (arith, count-route x (routes p) k)), p.sizes.stops);
      };
    }
