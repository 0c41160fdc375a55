-- A frame that is filled.
use Prim.Native.Nat.{ℕ, zero, suc, ◌+◌, ◌-◌, ◌≤◌, ◌<◌}
use native.Mathlib.Omega.{arith}
use native.Mathlib.Decide.{dec_lt}
use mathlib.Core.Path.{◌≡◌, refl, sym, ap, ◌∙◌}
use mathlib.Core.List.{List, ◌++◌}
use lib.ListN.{length, get_or, take, drop, replicate, length-append, length-drop, length-replicate}
use lib.Seq.{take_at, drop_at, get_or-take, get_or-drop, length-take-le}
use Rattle.model.specs.Plan.{placed}
use Rattle.model.specs.declared.Region.{Region}
use Rattle.model.specs.Region.{drained}
use Rattle.model.proofs.Counts.{Below, below_at}
use Rattle.model.proofs.Arrangements.{drained-le}
use Rattle.solution.specs.declared.plan.Plan as held
use Rattle.solution.specs.Held.{routes}
use Rattle.pasting.specs.Put.{put}
use Rattle.pasting.proofs.Put.{length-put, drop-put}
use Rattle.rebuild_words.specs.Gaps.{no_region, Gapped}
use Rattle.rebuild_tables.specs.Framed.{Framed}

-- ---- a list that is put into another, number by number

module _ (d s : List ℕ) (at : ℕ) (h : at + length s ≤ length d) (new : List ℕ) (e : new ≡ put d at s) where
  front : length (take at d) ≡ at
  front = length-take-le at d (omega arith)

  -- before it
  pub put_first : (i : ℕ) → i < at → get_or new i 0 ≡ get_or d i 0
  put_first i k =
      sym (get_or-take at new i 0 k)
      ∙ ap (λ l. get_or l i 0) (ap (take at) e ∙ take_at (take at d) (s ++ drop (at + length s) d) at front)
      ∙ get_or-take at d i 0 k

  -- where it was put
  pub put-here : (j : ℕ) → j < length s → get_or new (at + j) 0 ≡ get_or s j 0
  put-here j k =
      sym (get_or-drop at new j 0)
      ∙ sym (get_or-take (length s) (drop at new) j 0 k)
      ∙ ap (λ l. get_or l j 0)
      (ap (λ l. take (length s) (drop at l)) e
      ∙ ap (take (length s)) (drop_at (take at d) (s ++ drop (at + length s) d) at front)
      ∙ take_at s (drop (at + length s) d) (length s) refl)

  -- behind it
  pub put-past : (i : ℕ) → at + length s ≤ i → get_or new i 0 ≡ get_or d i 0
  put-past i k =
      let f : at + length s + (i - (at + length s)) ≡ i = omega arith in
      ap (λ j. get_or new j 0) (sym f)
      ∙ sym (get_or-drop (at + length s) new (i - (at + length s)) 0)
      ∙ ap (λ l. get_or l (i - (at + length s)) 0) (ap (drop (at + length s)) e ∙ drop-put d s at (omega arith))
      ∙ get_or-drop (at + length s) d (i - (at + length s)) 0
      ∙ ap (λ j. get_or d j 0) f

zeros-small : (n i : ℕ) → ◌≡◌ {A = ℕ} (get_or (replicate n 0) i 0) 0
zeros-small zero i = refl
zeros-small (suc n) zero = refl
zeros-small (suc n) (suc i) = zeros-small n i

-- a list with what is left of a longer one behind it is as long as that one
backed : {A : Type 0} (xs : List A) (k n : ℕ) (d : A) → length xs ≡ k → k ≤ n → length (xs ++ drop k (replicate n d)) ≡ n
backed xs k n d e h = omega (arith, length-append xs (drop k (replicate n d)), length-drop k (replicate n d), length-replicate n d)

-- ---- the frame

-- what stands in a frame that is filled for a plan and its regions
pub record Parts (plan : held.Plan) (regions : List Region) (k m : ℕ) (spans : List Region) (listed : List ℕ) : Type 0 where
  pub on_routes : k ≡ placed (routes plan)
  pub off_routes : m ≡ length (drained (routes plan) regions)
  pub copied : spans ≡ regions ++ drop (length regions) (replicate 3 no_region)
  pub holds : listed ≡ put (replicate 8 0) 1 (drained (routes plan) regions)

module _ (plan : held.Plan) (regions : List Region) (G : Gapped plan regions)
    (few : length (drained (routes plan) regions) ≤ 7) {k m : ℕ} {spans : List Region} {listed : List ℕ} (K : Parts plan regions k m spans listed) where
  abbrev stops : List ℕ
  stops = drained (routes plan) regions

  places : length listed ≡ 8
  places = ap length K.holds ∙ length-put (replicate 8 0) stops 1 (omega arith)

  pub regions-same : take (length regions) spans ≡ regions
  regions-same = rw K.copied (take_at regions (drop (length regions) (replicate 3 no_region)) (length regions) refl)

  stops_same : take m (drop 1 listed) ≡ stops
  stops_same =
      rw (K.off_routes, K.holds)
      (ap (take (length stops)) (drop_at (take 1 (replicate 8 0)) (stops ++ drop (1 + length stops) (replicate 8 0)) 1 refl)
      ∙ take_at stops (drop (1 + length stops) (replicate 8 0)) (length stops) refl)

  stops-below : Below 64 stops
  stops-below s h = omega (arith, plan.lent.below s (omega (arith, drained-le (routes plan) regions G.stretches s)), plan.sizes.stops)

  pub small-parts : (i : ℕ) → get_or listed i 0 < 64
  small-parts i =
      let room : 1 + length stops ≤ 8 = omega arith in
      elim (dec_lt i 1) [
        | yes h ↦ omega (arith, put_first (replicate 8 0) stops 1 room listed K.holds i h, zeros-small 8 i)
        | no k ↦ elim (dec_lt (i - 1) (length stops)) [
          | yes h ↦
              let e : 1 + (i - 1) ≡ i = omega arith in
              omega (arith, ap (λ j. get_or listed j 0) e, put-here (replicate 8 0) stops 1 room listed K.holds (i - 1) h, below_at 64 stops (i - 1) stops-below h)
          | no h ↦ omega (arith, put-past (replicate 8 0) stops 1 room listed K.holds i (omega arith), zeros-small 8 i)
        ]
      ]

  pub framed : 0 < length regions → Framed (length regions) k m spans listed plan
  framed some = record {
    spans = ap length K.copied ∙ backed regions (length regions) 3 no_region refl G.few;
    places = places;
    some = some;
    gaps = sym (ap length regions-same);
    gapped = rw regions-same G;
    few = omega (arith, K.off_routes);
    stops = stops_same ∙ sym (ap (drained (routes plan)) regions-same);
    placed = K.on_routes;
  }
