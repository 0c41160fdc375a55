-- Laws of the tests: what a walk over a list answers, and what is known where a test does not apply.
use mathlib.Core.Path.{◌≡◌, refl, sym, ◌∙◌}
use mathlib.Core.Bool.{Bool, true, false, and-eq-true_iff}
use mathlib.Core.List.{List, [], ◌∷◌}
use Prim.Native.Nat.{ℕ, zero, suc, ◌/◌, ◌%◌, ◌<◌, ◌≤◌}
use native.Mathlib.Omega.{arith}
use lib.Dec.{ltb, eqb}
use lib.ListN.{length, get_or}
use Rattle.std.specs.Prelude.{All, IsTrue, ◌↔◌}
use borrow.Author.Tests.{lt-ltb, ltb-true, ltb-false}
use Rattle.model.specs.Lists.{all_below}
use Rattle.model.proofs.Lists.{neither}
use Rattle.model.specs.Refusals.{bad_vehicles, bad_stops}

-- a list whose numbers are all below a limit, place by place
each-below : (limit : ℕ) (xs : List ℕ) → all_below limit xs ≡ true → (k d : ℕ) → k < length xs → get_or xs k d < limit
each-below limit [] h k d l = absurd (omega arith)
each-below limit (x ∷ xs) h zero d l = ltb-true x limit ((and-eq-true_iff (ltb x limit) (all_below limit xs)).0 h).0
each-below limit (x ∷ xs) h (suc k) d l = each-below limit xs ((and-eq-true_iff (ltb x limit) (all_below limit xs)).0 h).1 k d (omega arith)

below-each : (limit : ℕ) (xs : List ℕ) → ((k d : ℕ) → k < length xs → get_or xs k d < limit) → all_below limit xs ≡ true
below-each limit [] f = refl
below-each limit (x ∷ xs) f = rw (lt-ltb x limit (f zero 0 (omega arith))) (below-each limit xs (λ k d l. f (suc k) d (omega arith)))

-- what a walk over a list answers is that test
pub all-below-said : (limit : ℕ) (xs : List ℕ) (b : Bool) → (IsTrue b ↔ All (λ x. x < limit) xs) → b ≡ all_below limit xs
all-below-said limit xs true h = sym (below-each limit xs (λ k d l. h.0 refl k d l))
all-below-said limit xs false h = go (all_below limit xs) refl
  where
    go : (t : Bool) → all_below limit xs ≡ t → false ≡ t
    go true e = h.1 (λ k d l. each-below limit xs e k d l)
    go false e = refl

-- what a test answered, said of what it stands for
pub said : {a b t : Bool} → a ≡ b → a ≡ t → b ≡ t
said e h = sym e ∙ h

-- a list that is neither odd nor over 32 long is of at most 16 pairs
pub few-vehicles : (vs : List ℕ) → bad_vehicles vs ≡ false → length vs / 2 ≤ 16
unfolding bad_vehicles
few-vehicles vs h = omega (arith, ltb-false 32 (length vs) (neither (eqb (length vs % 2) 1) (ltb 32 (length vs)) h).1)

-- a list that is not over 64 long
pub few-stops : (ss : List ℕ) → bad_stops ss ≡ false → length ss ≤ 64
unfolding bad_stops
few-stops ss h = ltb-false _ _ h
