-- Laws of ways up to a gap and on from it.
use mathlib.Core.Path.{◌≡◌, refl, sym, ap, ap₂, ◌∙◌}
use Prim.Native.Nat.{ℕ, ◌+◌, ◌*◌, ◌≤◌, ◌<◌}
use native.Mathlib.Omega.{arith}
use mathlib.Core.List.{List, [], ◌∷◌}
use lib.ListN.{length, get_or, take, drop, drop_of_length-le}
use native.Mathlib.Numerals.{add-one}
use lib.Seq.{drop-cons, take_all}
use Rattle.model.specs.Plan.{Route}
use Rattle.model.specs.Legs.{leg_at, depot}
use Rattle.model.proofs.Counts.{below_at}
use Rattle.distance.specs.Ways.{table_legs, walked, last_place, Below}
use Rattle.distance.proofs.Laws.{walked_more, last_more, way-last}
use Rattle.rebuild_survey.specs.declared.Way.{Way}
use Rattle.rebuild_survey.specs.declared.Gap.{Gap}
use Rattle.rebuild_survey.specs.Ways.{first_place, way_on, Stepped, Measured}

-- a way is the leg to its first place, and the way on from there
pub way-on : (t : List ℕ) (a : ℕ) (r : Route) (to : ℕ) → table_legs t a r to ≡ leg_at t a (first_place to r) + way_on t r to
unfolding table_legs way_on
way-on t a [] to = omega arith
way-on t a (s ∷ r) to = refl

-- ---- a way that is gone stop by stop

-- the first i stops are passed
pub record Going (t : List ℕ) (a : ℕ) (r : Route) (i sum last : ℕ) : Type 0 where
  pub up_to : i ≤ length r
  pub gone : sum ≡ walked t a (take i r)
  pub at : last ≡ last_place a (take i r)
  pub near : last < 80
  pub small : sum ≤ 200000 * i

module _ (t : List ℕ) (a : ℕ) (r : Route) where
  pub going-none : a < 80 → Going t a r 0 0 a
  unfolding walked
  going-none h = record { up_to = omega arith; gone = refl; at = refl; near = h; small = omega arith }

  pub going_more : (i sum last d : ℕ) → Going t a r i sum last → i < length r → Below 64 r → d ≡ leg_at t last (get_or r i 0) → d ≤ 200000
      → Going t a r (i + 1) (sum + d) (get_or r i 0)
  going_more i sum last d g h b e k = record {
    up_to = omega arith;
    gone = ap₂ ◌+◌ g.gone (e ∙ ap (λ (x : ℕ). leg_at t x (get_or r i 0)) g.at) ∙ sym (walked_more t a r i h);
    at = sym (last_more a r i h);
    near = omega (arith, below_at 64 r i b h);
    small = omega (arith, g.small);
  }

  pub going-all : (i sum last : ℕ) → Going t a r i sum last → length r ≤ i → length r ≤ 64 → (w : Way) → w.length ≡ sum → w.last ≡ last → Stepped t a r w
  going-all i sum last g h few w el ew =
      let e : take i r ≡ r = take_all i r h in
      record { length = el ∙ rw e at g.gone; last = ew ∙ rw e at g.at; near = omega (arith, g.near); short = omega (arith, g.small, g.up_to) }

-- ---- a route that has a gap

module _ (t : List ℕ) (k : ℕ) (r : Route) (from to : ℕ) (head : Way) (H : Stepped t (depot k) (take from r) head) (small : k < 16) where
  -- no stop comes after the gap
  pub measured-end : to ≡ length r → (g : Gap) → g.before ≡ head.last → g.after ≡ depot k → g.head ≡ head.length → g.rest ≡ 0
      → Measured t k r from to g
  unfolding way_on
  measured-end e g eb ea eh er =
      let d : drop to r ≡ [] = drop_of_length-le r {i = to} (omega arith) in
      record {
        before = eb ∙ H.last;
        after = rw d ea;
        head = eh ∙ H.length;
        rest = rw d er;
        near = (omega (arith, H.near), omega arith);
      }

  -- a stop comes after it
  pub measured-on : to < length r → get_or r to 0 < 64 → (y : Route) (rest : Way) (d : ℕ) → y ≡ drop (to + 1) r → Stepped t (get_or r to 0) y rest → d ≡ leg_at t rest.last (depot k)
      → (g : Gap) → g.before ≡ head.last → g.after ≡ get_or r to 0 → g.head ≡ head.length → g.rest ≡ rest.length + d → Measured t k r from to g
  unfolding way_on
  measured-on h s y rest d ey R ed g eb ea eh er =
      let e : drop to r ≡ get_or r to 0 ∷ drop (to + 1) r = rw add-one (drop-cons r to 0 h) in
      record {
        before = eb ∙ H.last;
        after = rw e ea;
        head = eh ∙ H.length;
        rest = rw (e, ← ey, way-last t (get_or r to 0) y (depot k)) (er ∙ ap₂ ◌+◌ R.length (ed ∙ ap (λ (x : ℕ). leg_at t x (depot k)) R.last));
        near = (omega (arith, H.near), omega arith);
      }
