-- What an accepted call costs is a whole number that an f64 counts without a gap.
use Rattle.std.proofs.Common.{◌≡◌, refl, sym, ◌∙◌, ap, true, List, ℕ, zero, suc, ◌≤◌, arith, Float, Result, Ok}
use Rattle.model.specs.declared.Walk.{Walk}
use Rattle.model.specs.declared.Standing.{Standing}
use Rattle.model.specs.declared.refusal.Refusal.{Refusal}
use Rattle.model.specs.Numbers.{answer}
use Rattle.model.specs.Whole.{whole, exact}
use Rattle.model.specs.Job.{Job}
use Rattle.model.specs.Cost.{cost}
use Rattle.model.specs.Live.{live_cost}
use Rattle.model.specs.Refusals.{Arguments, naming, Call, Rebuild, Arrive, Cancel, refusal}
use Rattle.model.specs.Calls.{made, new_live, begun_by, completed_by, cost_answer, rebuild_answer, live_answer}
use Rattle.planner.proofs.Exact.{counts_all, made-exact}
use Rattle.planner_live.proofs.Exact.{arrival-exact, cancellation-exact}
use Rattle.sheet_lines.specs.Printed.{Exactly, WalkedExactly, StandsExactly}

-- an accepted answer is not refused, and its value is what is answered
accepted : {T : Type 0} → (x : ℕ) (v t : T) → answer x v ≡ Ok t → (x ≡ 0) × (v ≡ t)
accepted zero v t e = (refl, cc)
accepted (suc x) v t e = let z : ◌≡◌ {A = ℕ} 0 1 = cc in absurd (omega arith)

pub exactly : (c : Call) (A : Arguments) (w : Result Float Refusal) → counts_all c ≡ true → w ≡ cost_answer c A → Exactly w
unfolding cost_answer
exactly c A w p h f e =
    let k = accepted (refusal c A) (whole (cost A.job (made c A))) f (sym h ∙ e) in
    (cost A.job (made c A), made-exact c A k.0 p, sym k.1)

pub walked-exactly : (A : Arguments) (a : Result Walk Refusal) → a ≡ rebuild_answer A → WalkedExactly a
unfolding rebuild_answer
walked-exactly A a h w e =
    let v : Walk = record { cost = whole (cost A.job (made Rebuild A)); begun = begun_by A; completed = completed_by A } in
    let k = accepted (refusal Rebuild A) v w (sym h ∙ e) in
    (cost A.job (made Rebuild A), made-exact Rebuild A k.0 refl, ap (λ u. u.cost) (sym k.1))

-- where the cost of a call that changes the live stops is small enough
standing : (c : Call) (A : Arguments) → (refusal c A ≡ 0 → live_cost A.job (new_live c A) (made c A) ≤ exact)
    → (a : Result Standing Refusal) → a ≡ live_answer c A → StandsExactly a
unfolding live_answer
standing c A small a h t e =
    let v : Standing = record { live = new_live c A; cost = whole (live_cost A.job (new_live c A) (made c A)) } in
    let k = accepted (refusal c A) v t (sym h ∙ e) in
    (live_cost A.job (new_live c A) (made c A), small k.0, ap (λ u. u.cost) (sym k.1))

module _ (J : Job) (plan : List ℕ) (live s : ℕ) where
  pub arrival-stands : (a : Result Standing Refusal) → a ≡ live_answer Arrive (naming J plan live s) → StandsExactly a
  arrival-stands = standing Arrive (naming J plan live s) (arrival-exact (naming J plan live s))

  pub cancellation-stands : (a : Result Standing Refusal) → a ≡ live_answer Cancel (naming J plan live s) → StandsExactly a
  cancellation-stands = standing Cancel (naming J plan live s) (cancellation-exact (naming J plan live s))
