-- Laws of what a table of ways says of an arrangement: one stop more, one gap more.
use Prim.Native.Nat.{ℕ, zero, suc, ◌+◌, ◌-◌}
use native.Mathlib.Nat.{add-zero, add-suc, suc-add}
use native.Mathlib.Omega.{arith}
use mathlib.Core.Path.{◌≡◌, refl, ap, ◌∙◌}
use mathlib.Core.List.{List, [], ◌∷◌, ◌++◌}
use lib.ListN.{length, length-append}
use Rattle.model.specs.Lists.{concat}
use Rattle.model.specs.Cost.{price, missed_cost}
use Rattle.model.proofs.Lists.{concat-append}
use Rattle.rebuild_fillings.specs.Walk.{Filling, empties, Standing}
use Rattle.rebuild_fillings.specs.Rows.{last_from}
use Rattle.rebuild_fillings.proofs.Places.{standing-size}
use Rattle.rebuild_ways.specs.declared.Ways.{Ways}
use Rattle.rebuild_ways.specs.Ways.{way_at, own_at, prices_at, base_at}
use Rattle.rebuild_tables.specs.Ways.{way_by, gone_by, route_by, driven_by, cost_by}

module _ (ways : Ways) where
  -- one stop further
  pub gone-more : (r : ℕ) (x : List ℕ) (s : ℕ) → gone_by ways r (x ++ s ∷ []) ≡ gone_by ways r x + way_at ways (last_from r x) s
  unfolding gone_by
  gone-more r [] s = omega arith
  gone-more r (y ∷ x) s = omega (arith, gone-more y x s)

  -- a way is the way to its last stop and the leg from there
  way-last : (r : ℕ) (x : List ℕ) (c : ℕ) → way_by ways r x c ≡ gone_by ways r x + way_at ways (last_from r x) c
  unfolding way_by gone_by
  way-last r [] c = omega arith
  way-last r (y ∷ x) c = omega (arith, way-last y x c)

  pub route-last : (q : ℕ) (x : List ℕ) → route_by ways q x ≡ own_at ways q + gone_by ways (8 + q) x + way_at ways (last_from (8 + q) x) (8 + q)
  unfolding route_by
  route-last q x = omega (arith, way-last (8 + q) x (8 + q))

  pub driven-append : (q : ℕ) (xs ys : Filling) → driven_by ways q (xs ++ ys) ≡ driven_by ways q xs + driven_by ways (q + length xs) ys
  unfolding driven_by
  driven-append q [] ys = rw add-zero (omega arith)
  driven-append q (x ∷ xs) ys = rw (add-suc, ← suc-add) (omega (arith, driven-append (suc q) xs ys))

  pub driven-first : (q : ℕ) (x : List ℕ) (xs : Filling) → driven_by ways q (x ∷ xs) ≡ price (prices_at ways) (route_by ways q x) + driven_by ways (suc q) xs
  unfolding driven_by
  driven-first q x xs = refl

  pub driven-none : (q : ℕ) → driven_by ways q [] ≡ 0
  unfolding driven_by
  driven-none q = refl

  -- what all but gap q's route costs at a call: the gaps before it as they are, the later ones empty, and l stops left
  abbrev pub besides : ℕ → Filling → ℕ → ℕ → ℕ
  besides q done k l = base_at ways + (driven_by ways 0 done + (driven_by ways (suc q) (empties k) + missed_cost (prices_at ways) l))

  none-placed : (k : ℕ) → length (concat (empties k)) ≡ 0
  none-placed zero = refl
  none-placed (suc k) = none-placed k

  -- and gap q's route with it: the arrangement's cost
  pub cost-padded : (m q : ℕ) (left : List ℕ) (done : Filling) (here : List ℕ) (k : ℕ) → Standing m q left done here
      → besides q done k (length left) + price (prices_at ways) (route_by ways q here) ≡ cost_by ways m (done ++ here ∷ empties k)
  unfolding cost_by
  cost-padded m q left done here k st =
      let c : length (concat (done ++ here ∷ empties k)) ≡ length (concat done) + (length here + length (concat (empties k))) = simp (concat-append, length-append) in
      let l : m - length (concat (done ++ here ∷ empties k)) ≡ length left = omega (arith, none-placed k, standing-size m q left done here st) in
      let e : 0 + length done ≡ q = omega (arith, st.gaps) in
      let d : driven_by ways 0 (done ++ here ∷ empties k) ≡ driven_by ways 0 done + driven_by ways q (here ∷ empties k)
      = driven-append 0 done (here ∷ empties k) ∙ ap (λ (i : ℕ). driven_by ways 0 done + driven_by ways i (here ∷ empties k)) e
      in
      rw (l, d, driven-first q here (empties k)) (omega arith)
