-- Of model's 256 candidates the 64 that are numbered are enough, and of each sixteen of these ten: the others are repeats, and a repeat never replaces the
-- best so far.
use Prim.Native.Nat.{ℕ, ◌+◌, ◌/◌, ◌%◌, ◌≤◌}
use native.Mathlib.Omega.{arith}
use native.Mathlib.Nat.{le_trans}
use mathlib.Core.Path.{◌≡◌, refl, ap, ◌∙◌}
use mathlib.Core.Bool.{Bool, true, false, cond}
use mathlib.Core.List.{List, [], ◌∷◌, map}
use lib.Dec.{eqb, ltb}
use borrow.Author.Tests.{ltb-true, ltb-false, le-ltb}
use Rattle.model.specs.Lists.{up_from, for_each, position}
use Rattle.model.specs.Job.{Job}
use Rattle.model.specs.Plan.{Plan, route_of}
use Rattle.model.specs.Cost.{cost}
use Rattle.model.specs.TwoOpt.{cheapest, set_route, turned, straight, exchanged, two_bits, offset, inter_candidates, inter}
use Rattle.model.proofs.Moves.{All, cheapest-le, cheapest-all, cheapest-append}
use Rattle.two_opt_candidates.specs.Pairs.{plan_at}
use Rattle.two_opt_candidates.specs.Weighed.{tried}

-- the ways to choose heads and tails: sixteen, of which four are different
module _ (plan : Bool → Bool → Plan) where
  abbrev sixteen : List Plan
  sixteen = for_each two_bits λ head. map (λ tail. plan (straight head.0 head.1) (straight tail.0 tail.1)) two_bits

  abbrev four : List Plan
  four = plan true true ∷ plan true false ∷ plan false true ∷ plan false false ∷ []

-- the numbers and what they say
numbered : (plan : Bool → Bool → ℕ → ℕ → Bool → Bool → Plan)
    → (for_each two_bits λ turn. for_each two_bits λ off. four (plan turn.0 turn.1 (offset off.0) (offset off.1)))
    ≡ map (λ c. plan (eqb (c / 32 % 2) 1) (eqb (c / 16 % 2) 1) (c / 8 % 2) (c / 4 % 2) (eqb (c / 2 % 2) 0) (eqb (c % 2) 0)) (up_from 0 64)
numbered plan = refl

module _ (J : Job) where
  -- what is not cheaper than the best so far is passed over
  passed_over : (best : Plan) (Ps : List Plan) → All (λ X. cost J best ≤ cost J X) Ps → cheapest J best Ps ≡ best
  passed_over best [] a = refl
  passed_over best (P ∷ Ps) a = rw (le-ltb (cost J P) (cost J best) a.0) (passed_over best Ps a.1)

  -- blocks that choose alike
  blocks-alike : {A : Type 0} (f g : A → List Plan) → ((best : Plan) (x : A) → cheapest J best (f x) ≡ cheapest J best (g x))
      → (best : Plan) (xs : List A) → cheapest J best (for_each xs f) ≡ cheapest J best (for_each xs g)
  blocks-alike f g e best [] = refl
  blocks-alike f g e best (x ∷ xs) =
      rw (cheapest-append J best (f x) (for_each xs f), cheapest-append J best (g x) (for_each xs g), e best x) (blocks-alike f g e (cheapest J best (g x)) xs)

  sixteen-four : (plan : Bool → Bool → Plan) (best : Plan) → cheapest J best (sixteen plan) ≡ cheapest J best (four plan)
  sixteen-four plan best =
      let tt : Plan = plan true true in
      let tf : Plan = plan true false in
      let ft : Plan = plan false true in
      let ff : Plan = plan false false in
      let two : Plan = cheapest J best (tt ∷ tf ∷ []) in
      let a = cheapest-all J best (tt ∷ tf ∷ []) in
      let all : Plan = cheapest J two (ft ∷ ff ∷ []) in
      let b = cheapest-all J two (ft ∷ ff ∷ []) in
      let l = cheapest-le J two (ft ∷ ff ∷ []) in
      cheapest-append J two (tf ∷ tt ∷ []) (ft ∷ ff ∷ ff ∷ ft ∷ ft ∷ ff ∷ ff ∷ ft ∷ tt ∷ tf ∷ tf ∷ tt ∷ [])
      ∙ ap (λ (best : Plan). cheapest J best (ft ∷ ff ∷ ff ∷ ft ∷ ft ∷ ff ∷ ff ∷ ft ∷ tt ∷ tf ∷ tf ∷ tt ∷ []))
      (passed_over two (tf ∷ tt ∷ []) (a.1.0, (a.0, _)))
      ∙ passed_over all (ff ∷ ft ∷ ft ∷ ff ∷ ff ∷ ft ∷ tt ∷ tf ∷ tf ∷ tt ∷ [])
      (b.1.0, (b.0, (b.0, (b.1.0, (b.1.0, (b.0, (le_trans l a.0, (le_trans l a.1.0, (le_trans l a.1.0, (le_trans l a.0, _))))))))))

  module _ (P : Plan) (a s b t : ℕ) where
    -- the plan of a choice of reversals, offsets, heads and tails
    abbrev chosen : Bool → Bool → ℕ → ℕ → Bool → Bool → Plan
    chosen ta tb da db heads tails =
        let ra = turned ta (route_of P a) in
        let rb = turned tb (route_of P b) in
        let x = exchanged heads tails ra (position s ra + da) rb (position t rb + db) in
        set_route b x.1 (set_route a x.0 P)

    pub inter-numbered : inter J P a s b t ≡ cheapest J P (map (plan_at P a s b t) (up_from 0 64))
    unfolding inter inter_candidates
    inter-numbered =
        blocks-alike (λ turn. for_each two_bits λ off. sixteen (chosen turn.0 turn.1 (offset off.0) (offset off.1)))
        (λ turn. for_each two_bits λ off. four (chosen turn.0 turn.1 (offset off.0) (offset off.1)))
        (λ best turn.
        blocks-alike (λ off. sixteen (chosen turn.0 turn.1 (offset off.0) (offset off.1)))
        (λ off. four (chosen turn.0 turn.1 (offset off.0) (offset off.1)))
        (λ best off. sixteen-four (chosen turn.0 turn.1 (offset off.0) (offset off.1)) best) best two_bits) P two_bits
        ∙ ap (cheapest J P) (numbered chosen)

-- ---- ten of sixteen numbers

module _ (code x : ℕ) (best : ℕ × ℕ) where
  tried-le : ((tried code x best).1 ≤ best.1) × ((tried code x best).1 ≤ x)
  unfolding tried
  tried-le = go (ltb x best.1) refl
    where
      go : (t : Bool) → ltb x best.1 ≡ t → ((cond t (code, x) best).1 ≤ best.1) × ((cond t (code, x) best).1 ≤ x)
      go true e = omega (arith, ltb-true x best.1 e)
      go false e = omega (arith, ltb-false x best.1 e)

  -- a later candidate of equal price never replaces the best so far
  passed : best.1 ≤ x → tried code x best ≡ best
  unfolding tried
  passed h = rw (le-ltb x best.1 h)

-- four, of which the first and the last are no cheaper than the best so far
module _ (n : ℕ → ℕ) (g : ℕ → ℕ) where
  abbrev pub two : ℕ → ℕ × ℕ → ℕ × ℕ
  two d best = tried (n (d + 2)) (g (d + 2)) (tried (n (d + 1)) (g (d + 1)) best)

  two-le : (d : ℕ) (best : ℕ × ℕ) → (two d best).1 ≤ best.1
  two-le d best =
      omega (arith, (tried-le (n (d + 2)) (g (d + 2)) (tried (n (d + 1)) (g (d + 1)) best)).0, (tried-le (n (d + 1)) (g (d + 1)) best).0)

  four-two : (d : ℕ) (best : ℕ × ℕ) → best.1 ≤ g d → best.1 ≤ g (d + 3)
      → tried (n (d + 3)) (g (d + 3)) (two d (tried (n d) (g d) best)) ≡ two d best
  four-two d best h k =
      rw (passed (n d) (g d) best h) (passed (n (d + 3)) (g (d + 3)) (two d best) (omega (arith, two-le d best)))

  -- the candidates of a list of digits
  abbrev pub steps : List ℕ → ℕ × ℕ → ℕ × ℕ
  steps [] best = best
  steps (d ∷ ds) best = steps ds (tried (n d) (g d) best)

  abbrev pub first-four : ℕ × ℕ → ℕ × ℕ
  first-four best = tried (n 3) (g 3) (two 0 (tried (n 0) (g 0) best))

  -- the first and the fourth are repeated by the other cuts
  pub ten : (k w : ℕ) → (g 0 ≡ k) × (g 4 ≡ k) × (g 8 ≡ k) × (g 12 ≡ k) → (g 3 ≡ w) × (g 7 ≡ w) × (g 11 ≡ w) × (g 15 ≡ w) → (best : ℕ × ℕ)
      → steps (up_from 0 16) best ≡ two 12 (two 8 (two 4 (first-four best)))
  ten k w K W best =
      let b₀ : ℕ × ℕ = tried (n 0) (g 0) best in
      let b : ℕ × ℕ = first-four best in
      let l = (tried-le (n 0) (g 0) best).1 in
      let m = two-le 0 b₀ in
      let r = tried-le (n 3) (g 3) (two 0 b₀) in
      let c : ℕ × ℕ = two 4 b in
      let lc = two-le 4 b in
      let d : ℕ × ℕ = two 8 c in
      let ld = two-le 8 c in
      ap (steps (up_from 8 8)) (four-two 4 b (omega arith) (omega arith))
      ∙ ap (steps (up_from 12 4)) (four-two 8 c (omega arith) (omega arith))
      ∙ four-two 12 d (omega arith) (omega arith)
