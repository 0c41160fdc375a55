-- What a frame's numbers say together.
use Prim.Native.Nat.{ℕ, ◌+◌, ◌-◌}
use native.Mathlib.Omega.{arith}
use mathlib.Core.Path.{◌≡◌, sym, ap, ◌∙◌, subst}
use lib.ListN.{length, drop, length-drop}
use lib.Seq.{length-take-le}
use Rattle.model.specs.Lists.{concat}
use Rattle.model.specs.Plan.{placed}
use Rattle.model.specs.Region.{drained}
use Rattle.rebuild_fillings.specs.Walk.{Filling}
use Rattle.rebuild_fillings.specs.Rows.{Full}
use Rattle.rebuild_tables.specs.declared.frame.Frame.{Frame}
use Rattle.rebuild_tables.specs.Frame.{gap_count, placed_count, drained_count, framed_plan, framed_regions, plan_by}
use Rattle.rebuild_tables.proofs.Plans.{plan-placed}

module _ (f : Frame) where
  -- as many as are drained
  pub drained-many : drained_count f ≡ length (drained (framed_plan f) (framed_regions f))
  drained-many =
      sym (length-take-le (drained_count f) (drop 1 f.listed) (omega (arith, length-drop 1 f.listed, f.framed.places, f.framed.few))) ∙ ap length f.framed.stops

  -- what a filling places, and what it leaves
  pub framed-placed : (xs : Filling) → Full (gap_count f) (drained_count f) xs
      → placed (plan_by f xs) + (drained_count f - length (concat xs)) ≡ placed_count f
  framed-placed xs full =
      plan-placed (framed_plan f) (framed_regions f) xs (drained_count f) (subst (λ (p : ℕ). Full p (drained_count f) xs) f.framed.gaps full) drained-many f.framed.gapped.stretches
      ∙ sym f.framed.placed
