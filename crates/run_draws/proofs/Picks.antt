-- What a round picks, from the places in the rows that it has drawn.
use mathlib.Core.Path.{◌≡◌, refl, sym, ap, ap₂, ◌∙◌}
use mathlib.Core.Logic.{◌≢◌, inl, inr}
use mathlib.Core.List.{List, [], ◌∷◌}
use Prim.Native.Nat.{ℕ, suc, ◌+◌, ◌-◌, ◌*◌, ◌%◌, ◌≤◌, ◌<◌}
use native.Mathlib.Omega.{arith}
use lib.ListN.{length, get_or, take, drop, set}
use Rattle.model.specs.Lists.{without, count, Once}
use Rattle.model.specs.Run.{drawn}
use Rattle.model.proofs.Lists.{Tested, tested, one_same, one-other, once-place}
use Rattle.model.proofs.Counts.{Below}
use Rattle.nearest_neighbor.specs.Answers.{row_of}
use Rattle.nearest_neighbor.proofs.Filling.{row-once, row-length, row_at, row-stop}
use Rattle.run_draws.specs.Picks.{picked_from, Pickable, Picked}
use Rattle.run_draws.proofs.Rest.{rest-before, rest-after}

-- ---- the definition by k

module _ (n : ℕ) (S : ℕ → List ℕ) (ds : List ℕ) (p : ℕ) where
  picked-one : drawn ds (p + 1) % 2 ≡ 0 → picked_from n S ds p ≡ get_or (S (drawn ds (p + 2) % n)) (drawn ds (p + 3) % n) 0 ∷ []
  unfolding picked_from
  picked-one e = rw e

  picked-two : drawn ds (p + 1) % 2 ≡ 1
      → picked_from n S ds p
      ≡ get_or (S (drawn ds (p + 2) % n)) (drawn ds (p + 3) % n) 0
      ∷ get_or (without (get_or (S (drawn ds (p + 2) % n)) (drawn ds (p + 3) % n) 0) (S (drawn ds (p + 2) % n))) (drawn ds (p + 4) % (n - 1)) 0
      ∷ []
  unfolding picked_from
  picked-two e = rw e

-- it looks at S in one place
pub picked_same : (n : ℕ) (S R : ℕ → List ℕ) (ds : List ℕ) (p : ℕ) → S (drawn ds (p + 2) % n) ≡ R (drawn ds (p + 2) % n) → picked_from n S ds p ≡ picked_from n R ds p
unfolding picked_from
picked_same n S R ds p e = rw e

-- ---- lists of one or two stops

below_one : (n a : ℕ) → a < n → Below n (a ∷ [])
below_one n a h s g = go (tested s a)
  where
    go : Tested s a → s < n
    go (inl e) = omega (arith, e.0)
    go (inr e) = absurd (omega (arith, one-other s a e.0))

below_two : (n a b : ℕ) → a < n → b < n → Below n (a ∷ b ∷ [])
below_two n a b h k s g = go (tested s a)
  where
    go : Tested s a → s < n
    go (inl e) = omega (arith, e.0)
    go (inr e) = below_one n b k s (omega (arith, one-other s a e.0))

once-two : (a b : ℕ) → a ≢ b → Once (a ∷ b ∷ [])
once-two a b h s = go (tested s a) (tested s b)
  where
    go : Tested s a → Tested s b → count s (a ∷ b ∷ []) ≤ 1
    go (inl e) (inl f) = absurd (h (sym e.0 ∙ f.0))
    go (inl e) (inr f) = omega (arith, one_same s a e.0, one-other s b f.0)
    go (inr e) (inl f) = omega (arith, one-other s a e.0, one_same s b f.0)
    go (inr e) (inr f) = omega (arith, one-other s a e.0, one-other s b f.0)

once-one : (a : ℕ) → Once (a ∷ [])
once-one a s = omega (arith, once-two a (suc a) (λ e. omega arith) s)

-- what stands in a list of two after it is written
first-written : (xs : List ℕ) (a : ℕ) → length xs ≡ 2 → (take 1 (set xs 0 a) ≡ a ∷ []) × (drop 1 (set xs 0 a) ≡ drop 1 xs)
first-written [] a e = absurd (omega arith)
first-written (x ∷ xs) a e = (refl, refl)

both-written : (xs : List ℕ) (a b : ℕ) → length xs ≡ 2 → (take 2 (set (set xs 0 a) 1 b) ≡ a ∷ b ∷ []) × (drop 2 (set (set xs 0 a) 1 b) ≡ drop 2 xs)
both-written [] a b e = absurd (omega arith)
both-written (x ∷ []) a b e = absurd (omega arith)
both-written (x ∷ y ∷ xs) a b e = (refl, refl)

-- ---- the picks

module _ (near : List ℕ) (n : ℕ) (ds : List ℕ) (p : ℕ) (picks : List ℕ) (K : Pickable near n ds p picks)
    (x i more : ℕ) (ex : x ≡ drawn ds (p + 2) % n) (hx : x < n) (ei : i ≡ drawn ds (p + 3) % n) (hi : i < n) (em : more ≡ drawn ds (p + 1) % 2) where
  abbrev S : ℕ → List ℕ
  S y = row_of n y near

  -- the stop at a place of row x
  abbrev at : ℕ → ℕ
  at k = get_or near (x * 64 + k) 0

  in_row : (k : ℕ) → k < n → get_or (S x) k 0 ≡ at k
  in_row k h = row_at K.legs n x near (K.rows x hx) k h

  stop : (k : ℕ) → k < n → at k < n
  stop = row-stop K.legs n x near (K.rows x hx)

  long : length (S x) ≡ n
  long = row-length K.legs n x near (K.rows x hx)

  alone : Once (S x)
  alone = row-once K.legs n x near (K.rows x hx)

  as-drawn : get_or (S (drawn ds (p + 2) % n)) (drawn ds (p + 3) % n) 0 ≡ get_or (S x) i 0
  as-drawn = ap₂ (λ (y k : ℕ). get_or (S y) k 0) (sym ex) (sym ei)

  pub picks-one : more ≡ 0 → Picked near n ds p picks 1 (set picks 0 (at i))
  picks-one z =
      let f = first-written picks (at i) K.room in
      let w = f.0 in
      record {
        drawn = w ∙ ap (λ (s : ℕ). s ∷ []) (sym (as-drawn ∙ in_row i hi)) ∙ sym (picked-one n S ds p (sym em ∙ z));
        kept = f.1;
        long = ap length w;
        some = omega arith;
        at_most = omega arith;
        below = rw w (below_one n (at i) (stop i hi));
        once = rw w (once-one (at i));
      }

  module _ (j : ℕ) (z : more ≢ 0) (lm : more < 2) (ej : j ≡ drawn ds (p + 4) % (n - 1)) (hj : j < n - 1) where
    -- the second pick is at place k of row x
    second : (k : ℕ) → k < n → k ≢ i → get_or (without (get_or (S x) i 0) (S x)) j 0 ≡ get_or (S x) k 0
        → Picked near n ds p picks 2 (set (set picks 0 (at i)) 1 (at k))
    second k h ne r =
        let f = both-written picks (at i) (at k) K.room in
        let w = f.0 in
        let other : at i ≢ at k = λ e. ne (once-place (S x) k i alone (omega (arith, long)) (omega (arith, long)) (in_row k h ∙ sym e ∙ sym (in_row i hi))) in
        let rest : get_or (without (get_or (S (drawn ds (p + 2) % n)) (drawn ds (p + 3) % n) 0) (S (drawn ds (p + 2) % n))) (drawn ds (p + 4) % (n - 1)) 0 ≡ at k =
        rw (← ex, ← ei, ← ej) (r ∙ in_row k h)
        in
        record {
          drawn = w ∙ ap₂ (λ (s t : ℕ). s ∷ t ∷ []) (sym (as-drawn ∙ in_row i hi)) (sym rest) ∙ sym (picked-two n S ds p (sym em ∙ omega arith));
          kept = f.1;
          long = ap length w;
          some = omega arith;
          at_most = omega arith;
          below = rw w (below_two n (at i) (at k) (stop i hi) (stop k h));
          once = rw w (once-two (at i) (at k) other);
        }

    pub picks-before : j < i → Picked near n ds p picks 2 (set (set picks 0 (at i)) 1 (at j))
    picks-before h = second j (omega arith) (λ e. omega arith) (rest-before (S x) i j alone (omega (arith, long)) h)

    pub picks-after : i ≤ j → Picked near n ds p picks 2 (set (set picks 0 (at i)) 1 (get_or near (x * 64 + j + 1) 0))
    picks-after h =
        let e : x * 64 + j + 1 ≡ x * 64 + (j + 1) = omega arith in
        rw e (second (j + 1) (omega arith) (λ e. omega arith) (rest-after (S x) i j alone (omega (arith, long)) h))
