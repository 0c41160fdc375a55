-- The arrangements of the full plan are all arrangements of the stops on the vehicles.
use Prim.Native.Nat.{ℕ, zero, suc, ◌≤◌, ◌<◌}
use native.Mathlib.Omega.{arith}
use native.Mathlib.Nat.{sub-zero}
use native.Mathlib.Decide.{dec_lt}
use mathlib.Core.Path.{◌≡◌, refl, sym, ap, ap₂, ◌∙◌}
use mathlib.Core.Logic.{inl, inr}
use mathlib.Core.List.{List, [], ◌∷◌, append-nil, map}
use lib.ListN.{length, take, drop, length-replicate, drop_of_length-le}
use lib.Seq.{take_all}
use Rattle.model.specs.Lists.{In, concat, count, up_from, Once}
use Rattle.model.specs.Job.{Job, stop_count, vehicle_count}
use Rattle.model.specs.Plan.{Plan}
use Rattle.model.specs.Region.{drained}
use Rattle.model.specs.Rebuild.{choose, fillings, replaced, arrangements, empty_plan, all_arrangements, exhaustive}
use Rattle.model.proofs.Lists.{length-up_from, once-up_from, count-up_from-out}
use Rattle.model.proofs.Counts.{Below, concat-empty}
use Rattle.model.proofs.Choice.{choose-same}
use Rattle.model.proofs.Arrangements.{of-fillings, Arranges, in_all, of-all}
use Rattle.model.proofs.Exact.{empty-arranges}
use Rattle.exhaustive.specs.Full.{full_plan, full_regions}

taken : (n : ℕ) → take n (up_from 0 n) ≡ up_from 0 n
taken n = take_all n (up_from 0 n) (omega (arith, length-up_from 0 n))

dropped : (n : ℕ) → drop n (up_from 0 n) ≡ []
dropped n = drop_of_length-le (up_from 0 n) {i = n} (omega (arith, length-up_from 0 n))

-- one region for each vehicle
pub regions-each : (v n : ℕ) → v ≤ 3 → length (full_regions v n) ≡ v
regions-each zero n h = refl
regions-each (suc zero) n h = refl
regions-each (suc (suc zero)) n h = refl
regions-each (suc (suc (suc zero))) n h = refl
regions-each (suc (suc (suc (suc v)))) n h = absurd (omega arith)

-- which drain every stop, where there is a vehicle
regions-drain : (v n : ℕ) → 1 ≤ v → v ≤ 3 → drained (full_plan v n) (full_regions v n) ≡ up_from 0 n
regions-drain zero n g h = absurd (omega arith)
regions-drain (suc zero) n g h = rw (sub-zero, taken n, append-nil)
regions-drain (suc (suc zero)) n g h = rw (sub-zero, taken n) (simp append-nil)
regions-drain (suc (suc (suc zero))) n g h = rw (sub-zero, taken n) (simp append-nil)
regions-drain (suc (suc (suc (suc v)))) n g h = absurd (omega arith)

-- and what is put in their place is the plan
replaced-full : (v n : ℕ) → v ≤ 3 → (X : Plan) → length X ≡ v → replaced (full_plan v n) (full_regions v n) X ≡ X
replaced-full zero n h [] e = refl
replaced-full zero n h (x ∷ X) e = absurd (omega arith)
replaced-full (suc zero) n h [] e = absurd (omega arith)
replaced-full (suc zero) n h (x ∷ []) e = rw (dropped n, append-nil)
replaced-full (suc zero) n h (x ∷ y ∷ X) e = absurd (omega arith)
replaced-full (suc (suc zero)) n h [] e = absurd (omega arith)
replaced-full (suc (suc zero)) n h (x ∷ []) e = absurd (omega arith)
replaced-full (suc (suc zero)) n h (x ∷ y ∷ []) e = simp (dropped n, append-nil)
replaced-full (suc (suc zero)) n h (x ∷ y ∷ z ∷ X) e = absurd (omega arith)
replaced-full (suc (suc (suc zero))) n h [] e = absurd (omega arith)
replaced-full (suc (suc (suc zero))) n h (x ∷ []) e = absurd (omega arith)
replaced-full (suc (suc (suc zero))) n h (x ∷ y ∷ []) e = absurd (omega arith)
replaced-full (suc (suc (suc zero))) n h (x ∷ y ∷ z ∷ []) e = simp (dropped n, append-nil)
replaced-full (suc (suc (suc zero))) n h (x ∷ y ∷ z ∷ w ∷ X) e = absurd (omega arith)
replaced-full (suc (suc (suc (suc v)))) n h X e = absurd (omega arith)

map-kept : {A : Type 0} (f : A → A) (xs : List A) → ((x : A) → In x xs → f x ≡ x) → map f xs ≡ xs
map-kept f [] h = refl
map-kept f (x ∷ xs) h = rw (h x (inl refl), map-kept f xs (λ y i. h y (inr i)))

-- ---- the full plan

module _ (n : ℕ) where
  pub concat-full : (v : ℕ) → concat (full_plan (suc v) n) ≡ up_from 0 n
  concat-full v = rw (concat-empty v, append-nil)

  pub length-full : (v : ℕ) → length (full_plan v n) ≡ v
  length-full zero = refl
  length-full (suc v) = ap suc (length-replicate v [])

  pub once-full : (v : ℕ) → Once (concat (full_plan v n))
  once-full zero s = omega arith
  once-full (suc v) s = rw (concat-full v) (once-up_from 0 n s)

  pub below-full : (v : ℕ) → Below n (concat (full_plan v n))
  below-full zero s h = absurd (omega arith)
  below-full (suc v) s h = go (dec_lt s n)
    where
      go : Dec (s < n) → s < n
      go (yes d) = d
      go (no d) = absurd (omega (arith, ap (count s) (concat-full v), count-up_from-out s 0 n (inr (omega arith))))

  -- it drains at most n stops
  pub drained-full : (v : ℕ) → v ≤ 3 → length (drained (full_plan v n) (full_regions v n)) ≤ n
  drained-full zero h = omega arith
  drained-full (suc v) h = rw (regions-drain (suc v) n (omega arith) h) (omega (arith, length-up_from 0 n))

  -- its arrangements are the fillings of v gaps
  arranged : (v : ℕ) → v ≤ 3 → arrangements (full_plan v n) (full_regions v n) ≡ fillings v (up_from 0 n)
  unfolding arrangements
  arranged zero h = refl
  arranged (suc v) h =
      ap₂ (λ (g : ℕ) (ss : List ℕ). map (replaced (full_plan (suc v) n) (full_regions (suc v) n)) (fillings g ss)) (regions-each (suc v) n h)
      (regions-drain (suc v) n (omega arith) h)
      ∙ (map-kept (replaced (full_plan (suc v) n) (full_regions (suc v) n)) (fillings (suc v) (up_from 0 n))
      (λ X i. replaced-full (suc v) n h X (of-fillings (suc v) (up_from 0 n) X i).0))

module _ (v n : ℕ) (h : v ≤ 3) (J : Job) (ev : vehicle_count J ≡ v) (en : stop_count J ≡ n) where
  full-arranges : Arranges J (full_plan v n)
  full-arranges = record { routes = length-full n v ∙ sym ev; below = rw en (below-full n v); once = once-full n v }

  -- so the best of them is the exhaustive solver's choice
  pub full-chosen : choose J (full_plan v n) (arrangements (full_plan v n) (full_regions v n)) ≡ exhaustive J
  unfolding exhaustive
  full-chosen =
      let all : arrangements (full_plan v n) (full_regions v n) ≡ all_arrangements J = rw (ev, en) (arranged n v h) in
      rw all
      (choose-same J v (full_plan v n) (empty_plan J) (all_arrangements J) (all_arrangements J)
      wide (λ X i. inr (in_all J X (among X i))) (λ X i. inr (in_all J X (among-empty X i))))
    where
      among : (X : Plan) → In X (full_plan v n ∷ all_arrangements J) → Arranges J X
      among X (inl e) = rw e full-arranges
      among X (inr i) = of-all J X i

      among-empty : (X : Plan) → In X (empty_plan J ∷ all_arrangements J) → Arranges J X
      among-empty X (inl e) = rw e (empty-arranges J)
      among-empty X (inr i) = of-all J X i

      wide : (X : Plan) → In X (full_plan v n ∷ all_arrangements J) → length X ≡ v
      wide X i = (among X i).routes ∙ ev
