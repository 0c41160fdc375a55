-- From what is printed for the answer that code has to what is printed for the definition's.
use Rattle.std.proofs.Common.{◌≡◌, refl, ◌∙◌, ap, subst, ℕ, ℤ, List, [], ◌++◌, Result, Ok, Err, Float}
use Rattle.model.specs.declared.Walk.{Walk}
use Rattle.model.specs.declared.Totals.{Totals}
use Rattle.model.specs.declared.Standing.{Standing}
use Rattle.model.specs.declared.refusal.Refusal.{Refusal}
use Rattle.file_printing.specs.Printing.{Prints, printed_totals}
use Rattle.sheet_printing.specs.Costs.{printed_cost, printed_walk, printed_standing, printed_number, printed_change}
use Rattle.sheet_lines.specs.Printed.{printed_alone, printed_answer, printed_weight, printed_start, printed_weighed, printed_rebuilt, printed_solved, printed_changed, printed_viewed, printed_moved, printed_raised}

-- what is printed for each kind of answer is what is printed for its value, and the plan
weight : (a : Result Float Refusal) → printed_alone printed_cost a ≡ printed_weight a
weight (Ok c) = refl
weight (Err e) = refl

raised : (a : Result ℕ Refusal) → printed_alone printed_number a ≡ printed_raised a
raised (Ok x) = refl
raised (Err e) = refl

start : (a : Result Unit Refusal) (plan : List ℕ) → printed_answer (λ _. []) a plan ≡ printed_start a plan
start (Ok _) plan = refl
start (Err e) plan = refl

weighed : (a : Result Float Refusal) (plan : List ℕ) → printed_answer printed_cost a plan ≡ printed_weighed a plan
weighed (Ok c) plan = refl
weighed (Err e) plan = refl

rebuilt : (a : Result Walk Refusal) (plan : List ℕ) → printed_answer printed_walk a plan ≡ printed_rebuilt a plan
rebuilt (Ok w) plan = refl
rebuilt (Err e) plan = refl

solved : (a : Result Totals Refusal) (plan : List ℕ) → printed_answer printed_totals a plan ≡ printed_solved a plan
solved (Ok t) plan = refl
solved (Err e) plan = refl

changed : (a : Result Standing Refusal) (plan : List ℕ) → printed_answer printed_standing a plan ≡ printed_changed a plan
changed (Ok t) plan = refl
changed (Err e) plan = refl

viewed : (a : Result ℕ Refusal) (seen : List ℕ) → printed_answer printed_number a seen ≡ printed_viewed a seen
viewed (Ok set) seen = refl
viewed (Err e) seen = refl

moved : (a : Result ℤ Refusal) (plan : List ℕ) → printed_answer printed_change a plan ≡ printed_moved a plan
moved (Ok z) plan = refl
moved (Err e) plan = refl

module _ (old new : List ℕ) (r : ℕ) where
  -- the answer is another by name, and so is the text for it
  alone : {T : Type 0} → (text : T → List ℕ) (a b : Result T Refusal) (f : List ℕ) → printed_alone text b ≡ f → a ≡ b
      → Prints old new r (printed_alone text a) → Prints old new r f
  alone text a b f e g = subst (λ x. Prints old new r x) (ap (printed_alone text) g ∙ e)

  with_plan : {T : Type 0} → (text : T → List ℕ) (a b : Result T Refusal) (plan f : List ℕ) → printed_answer text b plan ≡ f → a ≡ b
      → Prints old new r (printed_answer text a plan) → Prints old new r f
  with_plan text a b plan f e g = subst (λ x. Prints old new r x) (ap (λ x. printed_answer text x plan) g ∙ e)

  pub shown-weight : (a b : Result Float Refusal) → a ≡ b → Prints old new r (printed_alone printed_cost a) → Prints old new r (printed_weight b)
  shown-weight a b = alone printed_cost a b (printed_weight b) (weight b)

  pub shown-raised : (a b : Result ℕ Refusal) → a ≡ b → Prints old new r (printed_alone printed_number a) → Prints old new r (printed_raised b)
  shown-raised a b = alone printed_number a b (printed_raised b) (raised b)

  module _ (plan : List ℕ) where
    pub shown-start : (a b : Result Unit Refusal) → a ≡ b → Prints old new r (printed_answer (λ _. []) a plan)
        → Prints old new r (printed_start b plan)
    shown-start a b = with_plan (λ _. []) a b plan (printed_start b plan) (start b plan)

    pub shown-weighed : (a b : Result Float Refusal) → a ≡ b → Prints old new r (printed_answer printed_cost a plan)
        → Prints old new r (printed_weighed b plan)
    shown-weighed a b = with_plan printed_cost a b plan (printed_weighed b plan) (weighed b plan)

    pub shown-rebuilt : (a b : Result Walk Refusal) → a ≡ b → Prints old new r (printed_answer printed_walk a plan)
        → Prints old new r (printed_rebuilt b plan)
    shown-rebuilt a b = with_plan printed_walk a b plan (printed_rebuilt b plan) (rebuilt b plan)

    pub shown-solved : (a b : Result Totals Refusal) → a ≡ b → Prints old new r (printed_answer printed_totals a plan)
        → Prints old new r (printed_solved b plan)
    shown-solved a b = with_plan printed_totals a b plan (printed_solved b plan) (solved b plan)

    pub shown-changed : (a b : Result Standing Refusal) → a ≡ b → Prints old new r (printed_answer printed_standing a plan)
        → Prints old new r (printed_changed b plan)
    shown-changed a b = with_plan printed_standing a b plan (printed_changed b plan) (changed b plan)

    pub shown-viewed : (a b : Result ℕ Refusal) → a ≡ b → Prints old new r (printed_answer printed_number a plan)
        → Prints old new r (printed_viewed b plan)
    shown-viewed a b = with_plan printed_number a b plan (printed_viewed b plan) (viewed b plan)

    pub shown-moved : (a b : Result ℤ Refusal) → a ≡ b → Prints old new r (printed_answer printed_change a plan)
        → Prints old new r (printed_moved b plan)
    shown-moved a b = with_plan printed_change a b plan (printed_moved b plan) (moved b plan)
