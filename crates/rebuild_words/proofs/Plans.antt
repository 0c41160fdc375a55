-- What a word places in each gap, and the plan that it stands for.
use Prim.Native.Nat.{ℕ, zero, suc, ◌+◌, ◌/◌, ◌%◌, ◌<◌}
use native.Mathlib.Nat.{add-zero, add-suc, suc-add, zero-add, le_of_suc-le-suc}
use native.Mathlib.Omega.{arith}
use mathlib.Core.Path.{◌≡◌, refl, ap, ◌∙◌, subst}
use mathlib.Core.Logic.{◌≢◌, inl, inr}
use mathlib.Core.Bool.{Bool, true, false, cond}
use mathlib.Core.List.{List, [], ◌∷◌, ◌++◌}
use lib.Dec.{eqb}
use lib.ListN.{length, get_or, length-map}
use borrow.Author.Tests.{eq-eqb, ne_eqb}
use Rattle.model.specs.Lists.{In, Distinct, up_from}
use Rattle.model.specs.Plan.{Plan, Route, route_of}
use Rattle.model.specs.declared.Region.{Region}
use Rattle.model.specs.Region.{vehicles_of, Stretches}
use Rattle.model.specs.Rebuild.{replaced}
use Rattle.model.proofs.Lists.{get_or-change, get_or-change-other, length-up_from}
use Rattle.model.proofs.Members.{in_map}
use Rattle.model.proofs.Regions.{first-stretch, later-stretches}
use Rattle.model.proofs.Arrangements.{spliced, length-replaced, replaced-other}
use Rattle.rebuild_words.specs.Words.{Word, code, in_gap, sequences_of, plan_of}

-- ---- what a word places in a gap

pub in-append : (q : ℕ) (w x : Word) → in_gap q (w ++ x) ≡ in_gap q w ++ in_gap q x
unfolding in_gap
in-append q [] x = refl
in-append q (c ∷ w) x = go (eqb (c / 64) q) (in-append q w x)
  where
    go : (t : Bool) → in_gap q (w ++ x) ≡ in_gap q w ++ in_gap q x
        → cond t (c % 64 ∷ in_gap q (w ++ x)) (in_gap q (w ++ x)) ≡ cond t (c % 64 ∷ in_gap q w) (in_gap q w) ++ in_gap q x
    go true e = rw e
    go false e = e

-- a placement is read back
gap_of : (q s : ℕ) → s < 64 → code q s / 64 ≡ q
gap_of q s h = omega arith

stop-of : (q s : ℕ) → s < 64 → code q s % 64 ≡ s
stop-of q s h = omega arith

module _ (q s : ℕ) (h : s < 64) (w : Word) where
  pub in-same : (r : ℕ) → q ≡ r → in_gap r (code q s ∷ w) ≡ s ∷ in_gap r w
  unfolding in_gap
  in-same r e = rw (gap_of q s h, stop-of q s h, eq-eqb q r e)

  pub in-other : (r : ℕ) → (q ≡ r → ⊥) → in_gap r (code q s ∷ w) ≡ in_gap r w
  unfolding in_gap
  in-other r f = rw (gap_of q s h, ne_eqb q r f)

module _ (w : Word) where
  pub length-sequences : (q g : ℕ) → length (sequences_of q g w) ≡ g
  unfolding sequences_of
  length-sequences q g = length-map (up_from q g) _ ∙ length-up_from q g

  pub sequence-at : (q g j : ℕ) → j < g → get_or (sequences_of q g w) j [] ≡ in_gap (q + j) w
  unfolding sequences_of
  sequence-at q zero j h = absurd (omega arith)
  sequence-at q (suc g) zero h = rw add-zero
  sequence-at q (suc g) (suc j) h = sequence-at (suc q) g j (le_of_suc-le-suc h) ∙ rw (add-suc, suc-add)

  pub sequence-of : (g q : ℕ) → q < g → get_or (sequences_of 0 g w) q [] ≡ in_gap q w
  sequence-of g q h = sequence-at 0 g q h ∙ rw zero-add

-- ---- a plan with a sequence in place of each region

pub in-get_or : {A : Type 0} (xs : List A) (i : ℕ) (d : A) → i < length xs → In (get_or xs i d) xs
in-get_or [] i d h = absurd (omega arith)
in-get_or (x ∷ xs) zero d h = inl refl
in-get_or (x ∷ xs) (suc i) d h = inr (in-get_or xs i d (le_of_suc-le-suc h))

-- the vehicle of the region at q
abbrev pub vehicle_at : List Region → Region → ℕ → ℕ
vehicle_at gs d q = (get_or gs q d).vehicle

module _ (P : Plan) (d : Region) where
  -- the route of the region at q, with x in its place
  abbrev pub spliced_at : List Region → ℕ → List ℕ → Route
  spliced_at gs q x = spliced (get_or gs q d) x (route_of P (vehicle_at gs d q))

  -- the first region's vehicle is not that of another
  apart : (g : Region) (gs : List Region) (q : ℕ) → Distinct (vehicles_of (g ∷ gs)) → q < length gs → vehicle_at gs d q ≢ g.vehicle
  apart g gs q a h e =
      a.0 (subst (λ (k : ℕ). In k (vehicles_of gs)) e (in_map (λ (u : Region). u.vehicle) (get_or gs q d) gs (in-get_or gs q d h)))

  pub replaced-route : (gs : List Region) (fill : List (List ℕ)) (q : ℕ) → Stretches P gs → length fill ≡ length gs → q < length gs
      → route_of (replaced P gs fill) (vehicle_at gs d q) ≡ spliced_at gs q (get_or fill q [])
  replaced-route [] fill q st e h = absurd (omega arith)
  replaced-route (g ∷ gs) [] q st e h = absurd (omega arith)
  replaced-route (g ∷ gs) (x ∷ fill) zero st e h =
      get_or-change g.vehicle (spliced g x) (replaced P gs fill) [] (rw length-replaced (first-stretch st).known)
      ∙ ap (spliced g x) (replaced-other P gs fill g.vehicle st.apart.0)
  replaced-route (g ∷ gs) (x ∷ fill) (suc q) st e h =
      get_or-change-other g.vehicle (vehicle_at gs d q) (spliced g x) (replaced P gs fill) [] (apart g gs q st.apart (le_of_suc-le-suc h))
      ∙ replaced-route gs fill q (later-stretches st) (omega arith) (le_of_suc-le-suc h)

-- ---- the plan of a word

module _ (P : Plan) (gs : List Region) (d : Region) (st : Stretches P gs) where
  pub length-plan_of : (w : Word) → length (plan_of P gs w) ≡ length P
  unfolding plan_of
  length-plan_of w = length-replaced P gs (sequences_of 0 (length gs) w)

  pub route-plan_of : (w : Word) (q : ℕ) → q < length gs → route_of (plan_of P gs w) (vehicle_at gs d q) ≡ spliced_at P d gs q (in_gap q w)
  unfolding plan_of
  route-plan_of w q h =
      replaced-route P d gs (sequences_of 0 (length gs) w) q st (length-sequences w 0 (length gs)) h
      ∙ ap (spliced_at P d gs q) (sequence-of w (length gs) q h)

  pub other-plan_of : (w : Word) (k : ℕ) → (In k (vehicles_of gs) → ⊥) → route_of (plan_of P gs w) k ≡ route_of P k
  unfolding plan_of
  other-plan_of w k f = replaced-other P gs (sequences_of 0 (length gs) w) k f
