-- What an arrival and a cancellation say: the number and the values of an answer are the definition's whole numbers.
use mathlib.Core.Path.{◌≡◌, refl, sym, ap, ◌∙◌}
use mathlib.Core.List.{List, [], ◌∷◌}
use Prim.Native.Nat.{ℕ, zero, suc, ◌≤◌}
use lib.Ieee.{Float}
use Rattle.std.specs.Prelude.{Result, Ok, Err}
use Rattle.model.specs.declared.Standing.{Standing}
use Rattle.model.specs.declared.refusal.Refusal.{Refusal}
use Rattle.model.specs.Numbers.{number_of}
use Rattle.model.proofs.Numbers.{IsNumber, refusal-number}
use Rattle.model.specs.Whole.{whole, exact}
use Rattle.model.specs.Job.{stop_count}
use Rattle.model.specs.Plan.{encode}
use Rattle.model.specs.Live.{live_cost}
use Rattle.model.specs.Refusals.{Arguments, Call, refusal}
use Rattle.model.specs.Calls.{made, new_live, plan_left, changed, live_answer, said_by_changed, saying, live_said, Changes}
use Rattle.whole.proofs.Laws.{amount-is}
use Rattle.call_refusals.proofs.Answers.{change-refused, change-accepted, left-alone, left-new}

said-change : (x live k : ℕ) → IsNumber x → (x ≡ 0 → k ≤ exact) → said_by_changed (changed x live k) ≡ saying x (live ∷ k ∷ [])
unfolding said_by_changed
said-change zero live k n h = ap (λ n. saying 0 (live ∷ n ∷ [])) (amount-is (whole k) k (h refl) refl)
said-change (suc x) live k n h = ap (λ y. record { number = y; values = [] }) n

module _ (c : Call) (A : Arguments) (small : refusal c A ≡ 0 → live_cost A.job (new_live c A) (made c A) ≤ exact) where
  changes : (r : Result Standing Refusal) (left : List ℕ) → r ≡ live_answer c A → left ≡ plan_left c A → Changes c A r left
  unfolding live_answer live_said
  changes r left h k = record { answer = h; said = ap said_by_changed h ∙ said-change (refusal c A) _ _ (refusal-number c A) small; plan = k }

  pub changes-refused : (r : Result Standing Refusal) (e : Refusal) → r ≡ Err e → number_of e ≡ refusal c A → Changes c A r A.plan
  changes-refused r e k h = changes r A.plan (k ∙ change-refused c A e h) (left-alone c A e h)

  pub changes-accepted : (live : ℕ) (f : Float) (left : List ℕ) → refusal c A ≡ 0 → live ≡ new_live c A
      → f ≡ whole (live_cost A.job (new_live c A) (made c A)) → left ≡ encode (stop_count A.job) (made c A)
      → Changes c A (Ok (record { live = live; cost = f })) left
  changes-accepted live f left e l h k = changes _ left (change-accepted c A live f (sym e) l h) (left-new c A left (sym e) k)
