-- The walk meets the fillings that the definition lists, in its order.
use Prim.Native.Nat.{ℕ, suc, ◌+◌, ◌-◌, ◌<◌}
use native.Mathlib.Omega.{arith}
use mathlib.Core.Path.{◌≡◌, refl, ap, ap₂, ◌∙◌}
use mathlib.Core.List.{List, [], ◌∷◌, ◌++◌, map, map-map, append-nil, append_assoc}
use Rattle.model.specs.Lists.{without, for_each}
use Rattle.model.specs.Rebuild.{fillings}
use Rattle.model.proofs.Lists.{map-append}
use Rattle.model.proofs.Fillings.{add_first, empty, fillings-step, map_same, for_each-same, map-for_each}
use Rattle.rebuild_fillings.specs.Walk.{Filling, onto, fillings_from, fillings_at}

-- ---- behind what is placed

-- nothing more in gap q: it is done
onto-empty : (done : Filling) (here : List ℕ) (xs : Filling) → onto done here (empty xs) ≡ onto (done ++ here ∷ []) [] xs
onto-empty done here [] = rw append-nil
onto-empty done here (x ∷ xs) = rw (append-nil, append_assoc)

-- a stop more in gap q
onto-first : (done : Filling) (here : List ℕ) (s : ℕ) (xs : Filling) → onto done here (add_first s xs) ≡ onto done (here ++ s ∷ []) xs
onto-first done here s [] = refl
onto-first done here s (x ∷ xs) = rw append_assoc

-- with g gaps after gap q
onto-step : (g : ℕ) (left : List ℕ) (done : Filling) (here : List ℕ)
    → map (onto done here) (fillings (suc g) left)
    ≡ map (onto (done ++ here ∷ []) []) (fillings g left)
    ++ for_each left (λ s. map (onto done (here ++ s ∷ [])) (fillings (suc g) (without s left)))
onto-step g left done here =
    ap (map (onto done here)) (fillings-step g left)
    ∙ map-append (onto done here) (map empty (fillings g left)) _
    ∙ ap₂ ◌++◌
    (map-map (onto done here) empty (fillings g left) ∙ map_same (fillings g left) _ _ (λ xs _. onto-empty done here xs))
    (map-for_each (onto done here) left (λ s. map (add_first s) (fillings (suc g) (without s left)))
    ∙ for_each-same left _ _
    (λ s _. map-map (onto done here) (add_first s) (fillings (suc g) (without s left))
    ∙ map_same (fillings (suc g) (without s left)) _ _ (λ xs _. onto-first done here s xs)))

onto-none : (xs : List Filling) → map (onto [] []) xs ≡ xs
onto-none [] = refl
onto-none ([] ∷ xs) = ap (λ l. [] ∷ l) (onto-none xs)
onto-none ((x ∷ y) ∷ xs) = ap (λ l. (x ∷ y) ∷ l) (onto-none xs)

pub fillings_from-none : (p : ℕ) (left : List ℕ) → fillings_from p 0 left [] [] ≡ fillings p left
unfolding fillings_from
fillings_from-none p left = let e : p - 0 ≡ p = omega arith in rw e (onto-none (fillings p left))

-- ---- its steps, for the proof of a function that goes so

module _ (p q : ℕ) (left : List ℕ) (done : Filling) (here : List ℕ) where
  from_step : q < p → fillings_from p q left done here ≡ fillings_from p (q + 1) left (done ++ here ∷ []) [] ++ fillings_at p q left done here left
  unfolding fillings_from fillings_at
  from_step h =
      let a : p - q ≡ suc (p - (q + 1)) = omega arith in
      rw a (onto-step (p - (q + 1)) left done here)

  -- gap q is closed and the next one opened; then a stop more in gap q
  pub from_next : q + 1 < p → fillings_from p q left done here ≡ fillings_from p (q + 1) left (done ++ here ∷ []) [] ++ fillings_at p q left done here left
  from_next h = from_step (omega arith)

  -- gap q is the last: what is placed is met
  pub from_last : q + 1 ≡ p → fillings_from p q left done here ≡ (done ++ here ∷ []) ∷ fillings_at p q left done here left
  unfolding fillings_from
  from_last h =
      let a : p - (q + 1) ≡ 0 = omega arith in
      from_step (omega arith) ∙ ap (λ g. map (onto (done ++ here ∷ []) []) (fillings g left) ++ fillings_at p q left done here left) a

  -- stop s next in gap q, and the stops after it
  pub at-stop : (s : ℕ) (next : List ℕ)
      → fillings_at p q left done here (s ∷ next) ≡ fillings_from p q (without s left) done (here ++ s ∷ []) ++ fillings_at p q left done here next
  unfolding fillings_at
  at-stop s next = refl

  pub at_none : fillings_at p q left done here [] ≡ []
  unfolding fillings_at
  at_none = refl
