-- The plan of a filling by places: as wide as the plan that was drained, with no stop more often, and in plan form where that was.
use Prim.Native.Nat.{ℕ, ◌+◌, ◌-◌, ◌≤◌}
use native.Mathlib.Omega.{arith}
use mathlib.Core.Path.{◌≡◌, refl, sym, ap, ◌∙◌}
use mathlib.Core.Logic.{inl, inr}
use mathlib.Core.List.{List, [], ◌∷◌, ◌++◌, map}
use lib.ListN.{length, length-append, length-map}
use Rattle.model.specs.Lists.{up_from, without, count, concat, Once}
use Rattle.model.specs.Plan.{Plan, placed, decode, encode, Lent}
use Rattle.model.specs.declared.Region.{Region}
use Rattle.model.specs.Region.{drained, Stretches}
use Rattle.model.proofs.Lists.{map-append, tested, one_same, one-other, count-member, count-without, count-append}
use Rattle.model.proofs.Counts.{Below, length-kept, once-le, once-few}
use Rattle.model.proofs.PlanForm.{lent_length, lent-encode}
use Rattle.model.proofs.Arrangements.{length-replaced, count-replaced, replaced-few}
use Rattle.rebuild_fillings.specs.Walk.{Filling, stop_at, named, plan_at}
use Rattle.rebuild_fillings.specs.Rows.{Full}
use Rattle.rebuild_fillings.proofs.Places.{stops-all}
use Rattle.rebuild_fillings.proofs.Full.{full-few}

-- ---- stops for places

module _ (f : ℕ → ℕ) (s : ℕ) where
  -- one number of a list taken out
  count-out : (x : ℕ) (xs : List ℕ) → 1 ≤ count x xs → count s (map f (without x xs)) + count s (f x ∷ []) ≡ count s (map f xs)
  count-out x [] h = absurd (omega arith)
  count-out x (y ∷ xs) h = elim (tested x y) [
    | inl e ↦ rw (e.1, e.0) (omega arith)
    | inr e ↦ rw e.1 (omega (arith, count-out x xs (omega (arith, one-other x y e.0))))
  ]

  -- fewer numbers, and fewer of what they are mapped to
  count-mapped : (xs ys : List ℕ) → ((x : ℕ) → count x xs ≤ count x ys) → count s (map f xs) ≤ count s (map f ys)
  count-mapped [] ys h = omega arith
  count-mapped (x ∷ xs) ys h =
      let k : 1 ≤ count x ys = omega (arith, h x, one_same x x refl) in
      let i = count-mapped xs (without x ys) (λ y. omega (arith, h y, count-without x y ys (count-member x ys k))) in
      omega (arith, i, count-out x ys k)

concat-map : (f : ℕ → ℕ) (xs : Filling) → concat (map (map f) xs) ≡ map f (concat xs)
concat-map f [] = refl
concat-map f (x ∷ xs) = ap (λ l. map f x ++ l) (concat-map f xs) ∙ sym (map-append f x (concat xs))

module _ (p m : ℕ) (xs : Filling) (full : Full p m xs) (all : List ℕ) (e : m ≡ length all) where
  -- each stop at most as often as it is drained
  pub named-counts : (s : ℕ) → count s (concat (named all xs)) ≤ count s all
  named-counts s =
      omega (
        arith,
        ap (count s) (concat-map (stop_at all) xs),
        count-mapped (stop_at all) s (concat xs) (up_from 1 m) full.each,
        ap (count s) (ap (λ k. map (stop_at all) (up_from 1 k)) e ∙ stops-all all),
      )

pub named-size : (all : List ℕ) (xs : Filling) → length (concat (named all xs)) ≡ length (concat xs)
named-size all xs = ap length (concat-map (stop_at all) xs) ∙ length-map (concat xs) (stop_at all)

-- ---- the plan

module _ (P : Plan) (gs : List Region) (xs : Filling) where
  pub plan-wide : length (plan_at P gs xs) ≡ length P
  plan-wide = length-replaced P gs (named (drained P gs) xs)

  module _ (m : ℕ) (full : Full (length gs) m xs) (e : m ≡ length (drained P gs)) (st : Stretches P gs) where
    abbrev all : List ℕ
    all = drained P gs

    gaps : length (named all xs) ≡ length gs
    gaps = length-map xs (map (stop_at all)) ∙ full.gaps

    pub plan-counts : (s : ℕ) → count s (concat (plan_at P gs xs)) ≤ count s (concat P)
    plan-counts s = (replaced-few P gs st (named all xs) gaps (named-counts (length gs) m xs full all e) s).0

    -- what is left unplaced is less
    pub plan-placed : placed (plan_at P gs xs) + (m - length (concat xs)) ≡ placed P
    plan-placed =
        let k : length (concat (plan_at P gs xs) ++ all) ≡ length (concat P ++ concat (named all xs)) =
        length-kept (concat (plan_at P gs xs) ++ all) (concat P ++ concat (named all xs))
        (λ s.
        count-append s (concat (plan_at P gs xs)) all
        ∙ count-replaced P s gs (named all xs) st gaps
        ∙ sym (count-append s (concat P) (concat (named all xs))))
        in
        omega (
          arith,
          k,
          length-append (concat (plan_at P gs xs)) all,
          length-append (concat P) (concat (named all xs)),
          named-size all xs,
          full-few (length gs) m xs full,
        )

    pub plan-once : Once (concat P) → Once (concat (plan_at P gs xs))
    plan-once = once-le (concat (plan_at P gs xs)) (concat P) plan-counts

    pub plan-below : (n : ℕ) → Below n (concat P) → Below n (concat (plan_at P gs xs))
    plan-below n b s h = b s (omega (arith, plan-counts s))

-- of a lent plan
module _ (v n : ℕ) (lent : List ℕ) (l : Lent v n lent) (gs : List Region) (xs : Filling) (m : ℕ) (full : Full (length gs) m xs)
    (e : m ≡ length (drained (decode v lent) gs)) (st : Stretches (decode v lent) gs) where
  abbrev P : Plan
  P = decode v lent

  -- room for all that is placed
  pub plan-few : placed (plan_at P gs xs) ≤ n
  plan-few = once-few n (concat (plan_at P gs xs)) (plan-once P gs xs m full e st l.once) (plan-below P gs xs m full e st n l.below)

  pub plan-lent : Lent v n (encode n (plan_at P gs xs))
  plan-lent =
      lent-encode v n (plan_at P gs xs) (plan-wide P gs xs ∙ lent_length v n lent l) (plan-once P gs xs m full e st l.once)
      (plan-below P gs xs m full e st n l.below)
