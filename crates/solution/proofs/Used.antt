-- The used places of a plan.
use Prim.Native.Nat.{ℕ, ◌+◌}
use native.Mathlib.Nat.{add-sub_cancel_left}
use mathlib.Core.Path.{◌≡◌, sym, ◌∙◌}
use mathlib.Core.List.{List}
use lib.ListN.{take}
use Rattle.model.specs.Lists.{sum, concat, part}
use Rattle.model.specs.Plan.{decode, used_part}
use Rattle.model.proofs.PlanForm.{concat-decode}

-- the used places, as the code cuts them out
pub used-part : (v mid : ℕ) (xs : List ℕ) → mid ≡ v + sum (take v xs) → part v mid xs ≡ used_part v xs
used-part v mid xs e = rw (e, add-sub_cancel_left)

-- they hold the stops of all routes
pub used-stops : (v mid : ℕ) (xs : List ℕ) → mid ≡ v + sum (take v xs) → part v mid xs ≡ concat (decode v xs)
used-stops v mid xs e = used-part v mid xs e ∙ sym (concat-decode v xs)
