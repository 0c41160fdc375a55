-- The plan of a word of a frame is written from the frame's parts.
use Prim.Native.Nat.{ℕ, ◌+◌, ◌≤◌}
use mathlib.Core.Path.{◌≡◌, ap, ap₂, ◌∙◌}
use mathlib.Core.List.{List, ◌++◌}
use lib.ListN.{length, take}
use lib.Seq.{take_at}
use Rattle.model.specs.Plan.{Plan, encode, placed, Lent}
use Rattle.model.specs.declared.Region.{Region}
use Rattle.rebuild_words.specs.Words.{Word, plan_of}
use Rattle.rebuild_words.specs.Gaps.{Gapped}
use Rattle.rebuild_fillings.specs.Rows.{digits_of, placements, filling_of, Full}
use Rattle.rebuild_fillings.proofs.Rows.{word-plan}
use Rattle.rebuild_tables.specs.declared.frame.Frame.{Frame}
use Rattle.rebuild_tables.specs.Frame.{gap_count, stop_total, drained_count, framed_plan, framed_regions, plan_by, form_of, Placeable}
use Rattle.rebuild_tables.proofs.Plans.{plan-few, plan-lent}
use Rattle.rebuild_frame.proofs.Codes.{said, stops-below, drained-many, filling-gaps, filling-few, filling-places}

-- ---- the plan of a word

module _ (f : Frame) (w : ℕ) (W : Placeable f w) where
  abbrev P : Plan
  P = framed_plan f

  abbrev gs : List Region
  gs = framed_regions f

  full : Full (length gs) (drained_count f) (filling_of w)
  full = record { gaps = W.full.gaps ∙ f.framed.gaps; each = W.full.each }

  said-plan : plan_of P gs (said f w) ≡ plan_by f (filling_of w)
  said-plan =
      ap₂ (λ l v. plan_of P gs (placements l 0 (digits_of 16 v))) f.framed.stops W.says
      ∙ word-plan P gs (filling_of w) (stops-below f) full.gaps (filling-gaps f w W) (filling-few f w W) (filling-places f w W)

  by-few : placed (plan_by f (filling_of w)) ≤ stop_total f
  by-few = plan-few f.plan.v f.plan.n _ f.plan.lent gs (filling_of w) (drained_count f) full (drained-many f) f.framed.gapped.stretches

  pub form-lent : Lent f.plan.v f.plan.n (form_of f w)
  form-lent = plan-lent f.plan.v f.plan.n _ f.plan.lent gs (filling_of w) (drained_count f) full (drained-many f) f.framed.gapped.stretches

  -- ---- as the code takes the parts, of which there are p regions

  module _ (p : ℕ) (ep : p ≡ gap_count f) where
    pub parts-gapped : Gapped f.plan (take p f.regions)
    parts-gapped = rw ep f.framed.gapped

    module _ (codes : Word) (e : codes ≡ said f w) where
      parts-plan : plan_of P (take p f.regions) codes ≡ plan_by f (filling_of w)
      parts-plan = rw (ep, e) said-plan

      pub parts-few : placed (plan_of P (take p f.regions) codes) ≤ stop_total f
      parts-few = rw parts-plan by-few

      -- what is written to the front of the numbers
      pub parts-form : (to rest : List ℕ) → to ≡ encode (stop_total f) (plan_of P (take p f.regions) codes) → take (f.plan.v + f.plan.n) (to ++ rest) ≡ form_of f w
      parts-form to rest t =
          let e : to ≡ form_of f w = t ∙ ap (encode (stop_total f)) parts-plan in
          take_at to rest (f.plan.v + f.plan.n) (ap length e ∙ form-lent.long) ∙ e
