-- The lines before the job file: which are read for which call.
use mathlib.Core.Path.{◌≡◌, refl, ap}
use Prim.Native.Nat.{ℕ, ◌≤◌, ◌<◌}
use native.Mathlib.Omega.{arith}
use mathlib.Core.Bool.{Bool, true, false}
use mathlib.Core.List.{List, [], ◌∷◌}
use borrow.Author.Tests.{lt-ltb}
use lib.ListN.{get_or}
use Rattle.model.specs.File.{line, Stands}
use Rattle.model.proofs.Pieces.{none-over-nil, none-over-cons}
use Rattle.file_columns.specs.Field.{NumberAt}
use Rattle.file_lines.specs.Standing.{LineAt}
use Rattle.file_lines.proofs.Known.{one_number}
use Rattle.std.proofs.Common.{Option, Some, None, lit≤}
use Rattle.sheet_head.specs.declared.Call.{Call}
use Rattle.sheet_head.specs.declared.Call.TheVariants.{Weigh, StartPlan, TwoOpt, Rebuild, Exhaustive, Pruned, Solve, Arrive, Cancel, View, MoveStop, Roadworks}
use Rattle.sheet_head.specs.Numbered.{number_of_call, call_number, Numbered}
use Rattle.sheet_head.specs.declared.Listed.{Listed}
use Rattle.sheet_head.specs.Form.{last_call, has_given, least_given, most_given, has_plan, longest_plan}
use Rattle.sheet_head.specs.Reading.{ListAt, ListIf, CallAt}

-- ---- the call's number

last : (call : Call) → number_of_call call ≤ last_call
last Weigh = lit≤ tt
last StartPlan = lit≤ tt
last TwoOpt = lit≤ tt
last Rebuild = lit≤ tt
last Exhaustive = lit≤ tt
last Pruned = lit≤ tt
last Solve = lit≤ tt
last Arrive = lit≤ tt
last Cancel = lit≤ tt
last View = lit≤ tt
last MoveStop = lit≤ tt
last Roadworks = lit≤ tt

module _ (bytes : List ℕ) (at : ℕ) where
  -- the line of a call's number
  call_line : (n : ℕ) → n ≤ last_call → Stands bytes at (line 14 (n ∷ [])) → LineAt bytes at 1
  call_line n l s = record { numbers = n ∷ []; count = refl; small = none-over-cons (omega arith) none-over-nil; stand = s }

  pub no_call : (LineAt bytes at 1 → ⊥) → CallAt bytes at 0
  no_call none = record { last = omega arith; there = λ l. absurd (omega arith); none = λ _ n l b s. none (call_line n b s) }

  module _ (x : ℕ) (number : NumberAt bytes at x) where
    -- the number that was read is the only one
    only-call : (n : ℕ) → n ≤ last_call → Stands bytes at (line 14 (n ∷ [])) → n ≡ x
    unfolding call_line
    only-call n l s = ap (λ ns. get_or ns 0 0) (one_number bytes at x (call_line n l s) number)

    pub call-read : LineAt bytes at 1 → (call : Option Call) → Numbered x call → CallAt bytes at (call_number call)
    call-read h (Some call) e =
        record {
          last = last call;
          there = λ _. rw (one_number bytes at x h number, e) at h.stand;
          none = λ z n k b s. omega (arith, only-call n b s, e);
        }
    call-read h None other =
        record {
          last = omega arith;
          there = λ l. absurd (omega arith);
          none = λ _ n k b s. let e = only-call n b s in other (omega (arith, e)) (omega (arith, e));
        }

-- ---- the lists of a call

module _ (call : ℕ) (bytes : List ℕ) (at : ℕ) where
  module _ (a : Option Listed) where
    pub given-some : (most_given call ≡ 0 → ⊥) → ListAt bytes at (least_given call) (most_given call) a
        → ListIf (has_given call) bytes at (least_given call) (most_given call) a
    given-some f h = rw (lt-ltb 0 (most_given call) (some (most_given call) f)) h
      where
        some : (n : ℕ) → (n ≡ 0 → ⊥) → 0 < n
        some n g = omega arith

    pub plan-some : (b : Bool) → b ≡ has_plan call → b ≡ true → ListAt bytes at 0 longest_plan a → ListIf (has_plan call) bytes at 0 longest_plan a
    plan-some b f e h = rw (← f, e) h

  pub given-none : most_given call ≡ 0 → ListIf (has_given call) bytes at (least_given call) (most_given call) (Some (record { count = 0; end = at }))
  given-none e = rw e refl

  pub plan-none : (b : Bool) → b ≡ has_plan call → b ≡ false → ListIf (has_plan call) bytes at 0 longest_plan (Some (record { count = 0; end = at }))
  plan-none b f e = rw (← f, e) refl
