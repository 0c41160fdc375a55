-- A call that is lent the set that was put together is lent the one that the sheet gives.
use mathlib.Core.Path.{◌≡◌, subst}
use Prim.Native.Nat.{ℕ}
use mathlib.Core.List.{List}
use lib.ListN.{get_or}
use Rattle.std.specs.Prelude.{Result}
use Rattle.model.specs.declared.Standing.{Standing}
use Rattle.model.specs.declared.refusal.Refusal.{Refusal}
use Rattle.model.specs.Job.{Job}
use Rattle.model.specs.Refusals.{Call, naming}
use Rattle.model.specs.Calls.{Changes}
use Rattle.sheet_calls.specs.Changing.{live_of, changing}

pub as-given : (c : Call) (J : Job) (plan left given : List ℕ) (live : ℕ) (a : Result Standing Refusal) → live ≡ live_of given
    → Changes c (naming J plan live (get_or given 0 0)) a left → Changes c (changing J plan given) a left
as-given c J plan left given live a e = subst (λ x. Changes c (naming J plan x (get_or given 0 0)) a left) e
