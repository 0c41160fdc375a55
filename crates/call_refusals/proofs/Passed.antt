-- What is known of arguments with which a call is not refused: no test that the call makes applies.
use mathlib.Core.Path.{◌≡◌, refl, sym, ◌∙◌}
use mathlib.Core.Bool.{Bool, true, false, cond, ◌&&◌, and-eq-true_iff}
use mathlib.Core.List.{List, [], ◌∷◌}
use Prim.Native.Nat.{ℕ, zero, suc, ◌+◌, ◌/◌, ◌<◌}
use native.Mathlib.Omega.{arith}
use lib.Dec.{eqb, ltb}
use lib.ListN.{length}
use borrow.Author.Tests.{eqb-true, ltb-true, not-false}
use Rattle.model.specs.Lists.{member}
use Rattle.model.specs.Plan.{Sizes}
use Rattle.model.specs.declared.Prices.{Prices}
use Rattle.model.specs.Job.{vehicle_count, stop_count}
use Rattle.model.specs.Refusals.{Arguments, Call, Test, tests, asked, first_number_of, refusal, bad_vehicles, bad_stops, bad_table, bad_length, bad_seen, bad_locations, bad_roads, bad_distances, bad_entries}
use Rattle.model.proofs.Lists.{neither}
use Rattle.call_refusals.specs.Order.{first, of_shape, of_job}
use Rattle.call_tests.proofs.Laws.{few-vehicles, few-stops}
use Rattle.distance.specs.Table.{Square}
use Rattle.distance.proofs.Limits.{square}

-- no test has the number 0
abbrev numbered : List Test → Bool
numbered [] = true
numbered (t ∷ ts) = ltb 0 t.number && numbered ts

-- whether the test with number k applies
abbrev pub applies : ℕ → Arguments → List Test → Bool
applies k A [] = false
applies k A (t ∷ ts) = cond (eqb k t.number) (t.applies A) (applies k A ts)

not-said : (m b : Bool) (k r : ℕ) → 0 < k → cond (m && b) k r ≡ 0 → (m ≡ true → b ≡ false) × (r ≡ 0)
not-said true true k r p e = absurd (omega arith)
not-said true false k r p e = (λ h. refl, e)
not-said false b k r p e = (λ h. cc, e)

module _ (c : Call) (A : Arguments) where
  no_test : (ts : List Test) → numbered ts ≡ true → first_number_of c A ts ≡ 0 → (k : ℕ) → member k (asked c) ≡ true → applies k A ts ≡ false
  no_test [] p e k m = refl
  no_test (t ∷ ts) p e k m =
      let q = (and-eq-true_iff (ltb 0 t.number) (numbered ts)).0 p in
      go (eqb k t.number) refl (not-said (member t.number (asked c)) (t.applies A) t.number (first_number_of c A ts) (ltb-true 0 t.number q.0) e)
      (λ r. no_test ts q.1 r k m)
    where
      go : (b : Bool) → eqb k t.number ≡ b → (member t.number (asked c) ≡ true → t.applies A ≡ false) × (first_number_of c A ts ≡ 0)
          → (first_number_of c A ts ≡ 0 → applies k A ts ≡ false)
          → cond b (t.applies A) (applies k A ts) ≡ false
      go true h s next = s.0 (rw (← eqb-true k t.number h) m)
      go false h s next = next s.1

  -- a call that is not refused with the number k, though it makes that test
  pub none-applies : refusal c A ≡ 0 → (k : ℕ) → member k (asked c) ≡ true → applies k A tests ≡ false
  unfolding refusal
  none-applies e k m = no_test tests refl e k m

  -- 6 and 7, of the vehicles, the stops and the table
  pub places-passed : refusal c A ≡ 0 → member 6 (asked c) ≡ true → bad_locations A.job.vehicles A.job.stops A.job.locations ≡ false
  places-passed e m = (neither (bad_roads A.job.locations A.roads) _ (none-applies e 6 m)).1

  pub legs-passed : refusal c A ≡ 0 → member 7 (asked c) ≡ true → bad_distances A.job.distances ≡ false
  legs-passed e m = (neither (bad_entries A.job.locations A.job.distances A.roads) _ (none-applies e 7 m)).1

-- 4: a list is as long as it is to be
pub right-length : (v n : ℕ) (xs : List ℕ) → bad_length v n xs ≡ false → length xs ≡ v + n
unfolding bad_length
right-length v n xs h = eqb-true (length xs) (v + n) (not-false _ h)

-- 1, 2 and 4: the numbers of vehicles and stops, and the length of the plan
pub record Sized (v n : ℕ) (plan : List ℕ) : Type 0 where
  pub sizes : Sizes v n
  pub long : length plan ≡ v + n

pub sized : (c : Call) (A : Arguments) → member 1 (asked c) ≡ true → member 2 (asked c) ≡ true → member 4 (asked c) ≡ true → refusal c A ≡ 0
    → Sized (vehicle_count A.job) (stop_count A.job) A.plan
sized c A m₁ m₂ m₄ e =
    record {
      sizes =
          record {
            vehicles = few-vehicles A.job.vehicles (none-applies c A e 1 m₁);
            stops = few-stops A.job.stops (none-applies c A e 2 m₂);
          };
      long = right-length _ _ _ (neither (bad_seen (vehicle_count A.job) (stop_count A.job) A.seen) _ (none-applies c A e 4 m₄)).1;
    }

-- of the first four tests none applies
shape-passed : (b₁ b₂ b₃ b₄ : Bool) → ◌≡◌ {A = ℕ} (cond b₁ 1 (cond b₂ 2 (cond b₃ 3 (cond b₄ 4 0)))) 0 → (b₁ ≡ false) × (b₂ ≡ false) × (b₃ ≡ false) × (b₄ ≡ false)
shape-passed true b₂ b₃ b₄ e = absurd (omega arith)
shape-passed false true b₃ b₄ e = absurd (omega arith)
shape-passed false false true b₄ e = absurd (omega arith)
shape-passed false false false true e = absurd (omega arith)
shape-passed false false false false e = (refl, refl, refl, refl)

-- 1 to 4, before the later tests are made
module _ (vs ss : List ℕ) (l : ℕ) (ds plan : List ℕ) (x : ℕ) (e : x ≡ of_shape vs ss l ds plan) (z : x ≡ 0) where
  passed : (bad_vehicles vs ≡ false) × (bad_stops ss ≡ false) × (bad_table l ds ≡ false) × (bad_length (length vs / 2) (length ss) plan ≡ false)
  unfolding of_shape
  passed = shape-passed (bad_vehicles vs) (bad_stops ss) (bad_table l ds) (bad_length (length vs / 2) (length ss) plan) (sym e ∙ z)

  pub shape-sized : Sized (length vs / 2) (length ss) plan
  shape-sized =
      record {
        sizes = record { vehicles = few-vehicles vs passed.0; stops = few-stops ss passed.1 };
        long = right-length _ _ _ passed.3;
      }

  pub shape-square : Square l ds
  shape-square = square l ds passed.2

first-zero : (a b : ℕ) → first a b ≡ 0 → a ≡ 0
first-zero zero b e = refl
first-zero (suc a) b e = e

-- the same where 6 to 8 are passed too
pub job-sized : (vs ss : List ℕ) (l : ℕ) (ds : List ℕ) (p : Prices) (plan : List ℕ) (x : ℕ) → x ≡ of_job vs ss l ds p plan → x ≡ 0
    → Sized (length vs / 2) (length ss) plan
unfolding of_job
job-sized vs ss l ds p plan x e z = shape-sized vs ss l ds plan (of_shape vs ss l ds plan) refl (first-zero _ _ (sym e ∙ z))
