-- What is known of a set of live stops that covers a plan, with a stop put in or taken out.
use Prim.Native.Nat.{ℕ, ◌<◌, ◌≤◌}
use native.Mathlib.Omega.{arith}
use native.Mathlib.Decide.{dec_lt}
use mathlib.Core.Path.{◌≡◌, sym, ◌∙◌}
use mathlib.Core.Logic.{inl, inr}
use mathlib.Core.Bool.{true, false, false≢true, cond}
use lib.Dec.{eqb}
use borrow.Author.Tests.{eqb-true, eqb-false, eq-eqb}
use Rattle.model.specs.Lists.{concat, count, Once}
use Rattle.model.specs.Plan.{Plan, placed}
use Rattle.model.specs.StopSet.{bit, contains, including, excluding, stops_of}
use Rattle.model.specs.Live.{live_count, Covers, cancelled}
use Rattle.model.proofs.Lists.{Tested, tested}
use Rattle.model.proofs.Counts.{length-le}
use Rattle.model.proofs.Live.{cancelled-count}
use Rattle.stop_set.proofs.Digits.{bit-excluding-other}
use Rattle.stop_set.proofs.Laws.{size-including, count-stops, count-excluding}

module _ (n live : ℕ) (P : Plan) (few : n ≤ 64) (below : (s : ℕ) → 1 ≤ count s (concat P) → s < n) (once : Once (concat P)) (C : Covers n live P) where
  -- no more stops are placed than are live
  pub placed-le : placed P ≤ live_count live
  placed-le = length-le (concat P) (stops_of live) λ x. go x (dec_lt 0 (count x (concat P)))
    where
      go : (x : ℕ) → Dec (0 < count x (concat P)) → count x (concat P) ≤ count x (stops_of live)
      go x (no h) = omega arith
      go x (yes h) =
          let b : bit x live ≡ 1 = eqb-true (bit x live) 1 (C.inside x h) in
          omega (arith, once x, count-stops x live (omega (arith, below x h)))

  module _ (s : ℕ) (h : s < n) (e : contains s live ≡ false) where
    -- a stop that arrives is on no route
    pub arriving-absent : count s (concat P) ≡ 0
    arriving-absent =
        elim (dec_lt 0 (count s (concat P))) [
          | yes k ↦ absurd (false≢true (sym e ∙ C.inside s k))
          | no k ↦ omega arith
        ]

    -- and with it fewer stops are placed than are live
    pub arriving-fewer : placed P < live_count (including s live)
    arriving-fewer =
        let z : bit s live ≡ 0 = let f = eqb-false (bit s live) 1 e in omega arith in
        omega (arith, placed-le, size-including s live (omega arith) z)

  -- a set without a stop covers the plan without it
  pub cancelling-covers : (s : ℕ) → Covers n (excluding s live) (cancelled s P)
  cancelling-covers s =
      record {
        inside = λ x k. inside x k (tested x s) (cancelled-count s P once x);
        below = λ x k. C.below x (within x k (tested x s) (count-excluding x s live));
      }
    where
      inside : (x : ℕ) → 1 ≤ count x (concat (cancelled s P)) → Tested x s → count x (concat (cancelled s P)) ≡ cond (eqb x s) 0 (count x (concat P)) → contains x (excluding s live) ≡ true
      inside x k (inl q) c = absurd (omega (arith, rw q.1 at c))
      inside x k (inr q) c = eq-eqb (bit x (excluding s live)) 1 (bit-excluding-other x s live q.0 ∙ eqb-true (bit x live) 1 (C.inside x (omega (arith, rw q.1 at c))))

      within : (x : ℕ) → 1 ≤ count x (stops_of (excluding s live)) → Tested x s → count x (stops_of (excluding s live)) ≡ cond (eqb x s) 0 (count x (stops_of live)) → 1 ≤ count x (stops_of live)
      within x k (inl q) c = absurd (omega (arith, rw q.1 at c))
      within x k (inr q) c = omega (arith, rw q.1 at c)
