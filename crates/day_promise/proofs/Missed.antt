-- The live stops that are missed are as many as are live and not placed.
use Prim.Native.Nat.{ℕ, suc, ◌+◌, ◌-◌, ◌≤◌}
use native.Mathlib.Omega.{arith}
use mathlib.Core.Path.{◌≡◌, refl, sym, ◌∙◌}
use mathlib.Core.Logic.{inl, inr}
use mathlib.Core.Bool.{Bool, true, false, cond, true≢false}
use mathlib.Core.List.{List, [], ◌∷◌}
use lib.ListN.{length}
use Rattle.model.specs.Lists.{concat, count, Once}
use Rattle.model.specs.Plan.{Plan, placed, is_placed}
use Rattle.model.specs.StopSet.{stops_of}
use Rattle.model.specs.Live.{live_count, unplaced_of, missed_stops}
use Rattle.model.proofs.Lists.{Tested, tested, one-other, member-count, absent-count}
use Rattle.model.proofs.Counts.{length-kept}
use Rattle.stop_set.proofs.Laws.{stops-once}

-- the stops of a list that are on a route
abbrev placed_of : Plan → List ℕ → List ℕ
placed_of P [] = []
placed_of P (s ∷ ss) = cond (is_placed s P) (s ∷ placed_of P ss) (placed_of P ss)

apart : (P : Plan) (ss : List ℕ) → length (unplaced_of P ss) + length (placed_of P ss) ≡ length ss
apart P [] = refl
apart P (s ∷ ss) = go (is_placed s P) (apart P ss)
  where
    go : (t : Bool) → length (unplaced_of P ss) + length (placed_of P ss) ≡ length ss
        → length (cond t (unplaced_of P ss) (s ∷ unplaced_of P ss)) + length (cond t (s ∷ placed_of P ss) (placed_of P ss)) ≡ suc (length ss)
    go true e = omega arith
    go false e = omega arith

count-placed_of : (x : ℕ) (P : Plan) (ss : List ℕ) → count x (placed_of P ss) ≡ cond (is_placed x P) (count x ss) 0
count-placed_of x P [] = go (is_placed x P)
  where
    go : (t : Bool) → ◌≡◌ {A = ℕ} 0 (cond t 0 0)
    go true = refl
    go false = refl
count-placed_of x P (s ∷ ss) = go (is_placed s P) refl (is_placed x P) refl (tested x s) (count-placed_of x P ss)
  where
    go : (t : Bool) → is_placed s P ≡ t → (u : Bool) → is_placed x P ≡ u → Tested x s → count x (placed_of P ss) ≡ cond (is_placed x P) (count x ss) 0
        → count x (cond t (s ∷ placed_of P ss) (placed_of P ss)) ≡ cond u (count x (s ∷ ss)) 0
    go true et true eu q e = let e' = rw eu at e in omega arith
    go true et false eu (inl q) e = let z : ◌≡◌ {A = Bool} true false = sym et ∙ rw (← q.0) eu in absurd (true≢false z)
    go true et false eu (inr q) e = let e' = rw eu at e in omega (arith, one-other x s q.0)
    go false et true eu (inl q) e = let z : ◌≡◌ {A = Bool} true false = sym eu ∙ rw q.0 et in absurd (true≢false z)
    go false et true eu (inr q) e = let e' = rw eu at e in omega (arith, one-other x s q.0)
    go false et false eu q e = let e' = rw eu at e in omega arith

-- where the plan holds live stops alone, none twice
pub missed-count : (live : ℕ) (P : Plan) → Once (concat P) → ((s : ℕ) → 1 ≤ count s (concat P) → 1 ≤ count s (stops_of live))
    → length (missed_stops live P) ≡ live_count live - placed P
missed-count live P o i =
    omega (arith, apart P (stops_of live), length-kept (placed_of P (stops_of live)) (concat P) (λ x. go x (is_placed x P) refl (count-placed_of x P (stops_of live))))
  where
    go : (x : ℕ) (t : Bool) → is_placed x P ≡ t → count x (placed_of P (stops_of live)) ≡ cond (is_placed x P) (count x (stops_of live)) 0
        → count x (placed_of P (stops_of live)) ≡ count x (concat P)
    go x true t e =
        let e' = rw t at e in
        let c = member-count x (concat P) t in
        omega (arith, o x, i x c, stops-once live x)
    go x false t e = let e' = rw t at e in omega (arith, absent-count x (concat P) t)
