-- Words of base 16: one digit more is one step of the walk, and the digits are read back.
use Prim.Native.Nat.{ℕ, zero, suc, ◌+◌, ◌-◌, ◌*◌, ◌/◌, ◌%◌, ◌^◌, ◌≤◌, ◌<◌}
use native.Mathlib.Nat.{mul_assoc, mul-le-mul_right, pow-suc, pow-succ', pow-le-pow_right, div-div-eq-div-mul}
use native.Mathlib.Decide.{dec_lt}
use native.Mathlib.Omega.{arith}
use mathlib.Core.Path.{◌≡◌, refl, sym, ap, ap₂, ◌∙◌}
use mathlib.Core.Logic.{inl, inr}
use mathlib.Core.List.{List, [], ◌∷◌, ◌++◌, map, append_assoc, append-nil}
use lib.ListN.{length, length-append, length-map, replicate, length-replicate, get_or-eq_default}
use borrow.Author.Tests.{lt-ltb, le-ltb, ne_eqb}
use lib.Pow.{pow-add}
use Rattle.model.specs.Lists.{concat, count}
use Rattle.model.proofs.Lists.{count-append, concat-append, one_same, one-other, Tested, tested}
use Rattle.model.specs.Plan.{Plan}
use Rattle.model.specs.declared.Region.{Region}
use Rattle.model.specs.Region.{drained}
use Rattle.model.specs.Rebuild.{replaced}
use Rattle.model.proofs.Counts.{Below, below_at}
use Rattle.rebuild_words.specs.Words.{Word, code, in_gap, sequences_of, plan_of}
use Rattle.rebuild_words.proofs.Plans.{in-same, in-other}
use Rattle.rebuild_words.proofs.Plans.{in-append}
use Rattle.rebuild_fillings.specs.Walk.{Filling, Standing, stop_at, named, plan_at}
use Rattle.rebuild_fillings.specs.Rows.{number_from, rows_from, word_of, last_from, digits_of, placements}
use Rattle.rebuild_fillings.proofs.Places.{standing-size, standing-place}

-- ---- one digit more

pub number_from-append : (w : ℕ) (a b : List ℕ) → number_from w (a ++ b) ≡ number_from (number_from w a) b
number_from-append w [] b = refl
number_from-append w (d ∷ a) b = number_from-append (w * 16 + d) a b

-- the last gap's digits apart
pub rows_split : (q : ℕ) (done : Filling) (here : List ℕ) → rows_from q (done ++ here ∷ []) ≡ rows_from q done ++ (8 + (q + length done)) ∷ here
rows_split q [] here = let e : q + 0 ≡ q = omega arith in rw (e, append-nil)
rows_split q (x ∷ done) here =
    let e : suc q + length done ≡ q + suc (length done) = omega arith in
    rw (rows_split (suc q) done here, e, append_assoc)

pub word-start : word_of ([] ∷ []) ≡ 8
unfolding word_of
word-start = refl

module _ (done : Filling) (here : List ℕ) where
  abbrev so_far : Filling
  so_far = done ++ here ∷ []

  -- the next gap is opened
  pub word_next : word_of (so_far ++ [] ∷ []) ≡ word_of so_far * 16 + 8 + (length done + 1)
  unfolding word_of
  word_next =
      let e : 0 + length so_far ≡ length done + 1 = rw length-append (omega arith) in
      ap (number_from 0) (rows_split 0 so_far []) ∙ rw e (number_from-append 0 (rows_from 0 so_far) ((8 + (length done + 1)) ∷ []) ∙ omega arith)

  -- a stop more is placed
  pub word-stop : (s : ℕ) → word_of (done ++ (here ++ s ∷ []) ∷ []) ≡ word_of so_far * 16 + s
  unfolding word_of
  word-stop s =
      ap (number_from 0) (rows_split 0 done (here ++ s ∷ []) ∙ sym (append_assoc (rows_from 0 done) ((8 + (0 + length done)) ∷ here) (s ∷ [])))
      ∙ number_from-append 0 (rows_from 0 done ++ (8 + (0 + length done)) ∷ here) (s ∷ [])
      ∙ ap (λ l. number_from 0 l * 16 + s) (sym (rows_split 0 done here))

-- ---- the last digit

below-first : (n d : ℕ) (ds : List ℕ) → Below n (d ∷ ds) → d < n
below-first n d ds b = b d (omega (arith, one_same d d refl))

below_rest : (n d : ℕ) (ds : List ℕ) → Below n (d ∷ ds) → Below n ds
below_rest n d ds b s h = b s (omega arith)

last-digit : (w d : ℕ) (ds : List ℕ) → Below 16 (d ∷ ds) → number_from (w * 16 + d) ds % 16 ≡ last_from d ds
last-digit w d [] b = let h : d < 16 = below-first 16 d [] b in omega arith
last-digit w d (e ∷ ds) b = last-digit (w * 16 + d) e ds (below_rest 16 d (e ∷ ds) b)

-- the row that the walk stands at: the place of the last stop in gap q, or 8 + q where there is none
pub word-last : (done : Filling) (here : List ℕ) → length done < 8 → Below 16 here → word_of (done ++ here ∷ []) % 16 ≡ last_from (8 + length done) here
unfolding word_of
word-last done here h b =
    let e : 0 + length done ≡ length done = omega arith in
    ap (λ l. number_from 0 l % 16) (rows_split 0 done here)
    ∙ rw e (ap (λ n. n % 16) (number_from-append 0 (rows_from 0 done) ((8 + length done) ∷ here))
    ∙ last-digit (number_from 0 (rows_from 0 done)) (8 + length done) here (λ s k. first s k (tested s (8 + length done))))
  where
    first : (s : ℕ) → 1 ≤ count s ((8 + length done) ∷ here) → Tested s (8 + length done) → s < 16
    first s k (inl e) = omega arith
    first s k (inr f) = b s (omega (arith, one-other s (8 + length done) f.0))

-- ---- how large a word is

number_small : (w : ℕ) (ds : List ℕ) → Below 16 ds → number_from w ds < (w + 1) * 16 ^ length ds
number_small w [] b = omega arith
number_small w (d ∷ ds) b =
    let h : w * 16 + d + 1 ≤ (w + 1) * 16 = omega (arith, below-first 16 d ds b) in
    let k : (w * 16 + d + 1) * 16 ^ length ds ≤ (w + 1) * 16 * 16 ^ length ds = mul-le-mul_right (16 ^ length ds) h in
    let e : (w + 1) * 16 * 16 ^ length ds ≡ (w + 1) * 16 ^ suc (length ds) = mul_assoc (w + 1) 16 (16 ^ length ds) ∙ ap (λ n. (w + 1) * n) (sym (pow-succ' 16 (length ds))) in
    omega (arith, number_small (w * 16 + d) ds (below_rest 16 d ds b))

-- every number of the sequences is a place
abbrev pub Places : Filling → Type 0
Places xs = (i : ℕ) → 1 ≤ count i (concat xs) → (1 ≤ i) × (i ≤ 7)

pub length-rows : (q : ℕ) (xs : Filling) → length (rows_from q xs) ≡ length xs + length (concat xs)
length-rows q [] = refl
length-rows q (x ∷ xs) = omega (arith, length-append x (rows_from (suc q) xs), length-append x (concat xs), length-rows (suc q) xs)

pub rows-below : (q : ℕ) (xs : Filling) → q + length xs ≤ 8 → Places xs → Below 16 (rows_from q xs)
rows-below q [] h pl s k = absurd (omega arith)
rows-below q (x ∷ xs) h pl s k = go (tested s (8 + q)) (dec_lt 0 (count s x)) (rows-below (suc q) xs (omega arith) (λ i c. pl i (omega (arith, count-append i x (concat xs)))) s)
  where
    go : Tested s (8 + q) → Dec (0 < count s x) → (1 ≤ count s (rows_from (suc q) xs) → s < 16) → s < 16
    go (inl e) d f = omega arith
    go (inr e) (yes c) f = let r = pl s (omega (arith, count-append s x (concat xs))) in omega arith
    go (inr e) (no c) f = f (omega (arith, one-other s (8 + q) e.0, count-append s x (rows_from (suc q) xs)))

-- a word of at most ten digits
pub word_small : (xs : Filling) → length xs ≤ 3 → length (concat xs) ≤ 7 → Places xs → word_of xs < 16 ^ 10
unfolding word_of
word_small xs h k pl =
    let a = number_small 0 (rows_from 0 xs) (rows-below 0 xs (omega arith) pl) in
    let b : 16 ^ length (rows_from 0 xs) ≤ 16 ^ 10 = pow-le-pow_right (omega arith) {i = length (rows_from 0 xs)} {j = 10} (omega (arith, length-rows 0 xs)) in
    omega arith

-- of a call in gap q of at most three, with at most seven stops
module _ (m q : ℕ) (left : List ℕ) (done : Filling) (here : List ℕ) (st : Standing m q left done here) (hm : m ≤ 7) where
  pub standing-places : Places (done ++ here ∷ [])
  standing-places i h =
      let c : count i (concat (done ++ here ∷ [])) ≡ count i (concat done) + count i here = simp (concat-append, append-nil, count-append) in
      let r = standing-place m q left done here st i (omega arith) in
      omega arith

  pub standing-word : q ≤ 2 → word_of (done ++ here ∷ []) < 16 ^ 10
  standing-word hq =
      let c : length (concat (done ++ here ∷ [])) ≡ length (concat done) + length here = simp (concat-append, append-nil, length-append) in
      word_small (done ++ here ∷ []) (rw length-append (omega (arith, st.gaps))) (omega (arith, standing-size m q left done here st)) standing-places

-- ---- reading a word

number-high : (w : ℕ) (ds : List ℕ) → Below 16 ds → number_from w ds / 16 ^ length ds ≡ w
number-high w [] b = let e : 16 ^ 0 ≡ 1 = refl in rw e (omega arith)
number-high w (d ∷ ds) b =
    let h : d < 16 = below-first 16 d ds b in
    rw pow-suc
    (sym (div-div-eq-div-mul (number_from (w * 16 + d) ds) (16 ^ length ds) 16)
    ∙ ap (λ n. n / 16) (number-high (w * 16 + d) ds (below_rest 16 d ds b))
    ∙ omega arith)

-- the digits of a number are read back
digits-back : (w : ℕ) (ds : List ℕ) → Below 16 ds → digits_of (length ds) (number_from w ds) ≡ ds
unfolding digits_of
digits-back w [] b = refl
digits-back w (d ∷ ds) b =
    let h : d < 16 = below-first 16 d ds b in
    let e : number_from (w * 16 + d) ds / 16 ^ length ds % 16 ≡ d = ap (λ n. n % 16) (number-high (w * 16 + d) ds (below_rest 16 d ds b)) ∙ omega arith in
    ap₂ ◌∷◌ e (digits-back (w * 16 + d) ds (below_rest 16 d ds b))

zeros-number : (k : ℕ) (ds : List ℕ) → number_from 0 (replicate k 0 ++ ds) ≡ number_from 0 ds
zeros-number zero ds = refl
zeros-number (suc k) ds = zeros-number k ds

zeros-below : (k : ℕ) (ds : List ℕ) → Below 16 ds → Below 16 (replicate k 0 ++ ds)
zeros-below zero ds b s h = b s h
zeros-below (suc k) ds b s h = elim (tested s 0) [
  | inl e ↦ omega arith
  | inr f ↦ zeros-below k ds b s (omega (arith, one-other s 0 f.0))
]

-- with zeros before them
pub digits-all : (n : ℕ) (ds : List ℕ) → length ds ≤ n → Below 16 ds → digits_of n (number_from 0 ds) ≡ replicate (n - length ds) 0 ++ ds
digits-all n ds h b =
    let l : length (replicate (n - length ds) 0 ++ ds) ≡ n = rw (length-append, length-replicate) (omega arith) in
    ap₂ digits_of (sym l) (sym (zeros-number (n - length ds) ds)) ∙ digits-back 0 (replicate (n - length ds) 0 ++ ds) (zeros-below (n - length ds) ds b)

-- ---- the placements that a word says

module _ (all : List ℕ) where
  pub placements-zero : (q : ℕ) (ds : List ℕ) → placements all q (0 ∷ ds) ≡ placements all q ds
  unfolding placements
  placements-zero q ds = refl

  pub placements-stop : (q d : ℕ) (ds : List ℕ) → 1 ≤ d → d ≤ 7 → placements all q (d ∷ ds) ≡ code q (stop_at all d) ∷ placements all q ds
  unfolding placements
  placements-stop q d ds h k = rw (lt-ltb d 8 (omega arith), ne_eqb d 0 (λ e. omega arith))

  pub placements-gap : (q r : ℕ) (ds : List ℕ) → placements all q ((8 + r) ∷ ds) ≡ placements all r ds
  unfolding placements
  placements-gap q r ds = let e : 8 + r - 8 ≡ r = omega arith in rw (le-ltb (8 + r) 8 (omega arith), e)

  placements-zeros : (k q : ℕ) (ds : List ℕ) → placements all q (replicate k 0 ++ ds) ≡ placements all q ds
  placements-zeros zero q ds = refl
  placements-zeros (suc k) q ds = placements-zero q (replicate k 0 ++ ds) ∙ placements-zeros k q ds

  -- a stop of a gap
  abbrev coded : ℕ → ℕ → ℕ
  coded q d = code q (stop_at all d)

  -- the placements of sequences from gap q on
  codes_from : ℕ → Filling → Word
  codes_from q [] = []
  codes_from q (x ∷ xs) = map (coded q) x ++ codes_from (suc q) xs

  placements-sequence : (q : ℕ) (x ds : List ℕ) → ((i : ℕ) → 1 ≤ count i x → (1 ≤ i) × (i ≤ 7))
      → placements all q (x ++ ds) ≡ map (coded q) x ++ placements all q ds
  placements-sequence q [] ds h = refl
  placements-sequence q (d ∷ x) ds h =
      let r = h d (omega (arith, one_same d d refl)) in
      placements-stop q d (x ++ ds) r.0 r.1 ∙ ap (λ w. coded q d ∷ w) (placements-sequence q x ds (λ i k. h i (omega arith)))

  placements-rows : (p q : ℕ) (xs : Filling) → Places xs → placements all p (rows_from q xs) ≡ codes_from q xs
  unfolding placements codes_from
  placements-rows p q [] pl = refl
  placements-rows p q (x ∷ xs) pl =
      placements-gap p q (x ++ rows_from (suc q) xs)
      ∙ placements-sequence q x (rows_from (suc q) xs) (λ i k. pl i (omega (arith, count-append i x (concat xs))))
      ∙ ap (λ w. map (coded q) x ++ w) (placements-rows q (suc q) xs (λ i k. pl i (omega (arith, count-append i x (concat xs)))))

  length-codes : (q : ℕ) (xs : Filling) → length (codes_from q xs) ≡ length (concat xs)
  unfolding codes_from
  length-codes q [] = refl
  length-codes q (x ∷ xs) =
      omega (arith, length-append (map (coded q) x) (codes_from (suc q) xs), length-append x (concat xs), length-map x (coded q), length-codes (suc q) xs)

  -- stops below 64
  module _ (b : (d : ℕ) → stop_at all d < 64) where
    coded-same : (q : ℕ) (x : List ℕ) → in_gap q (map (coded q) x) ≡ map (stop_at all) x
    unfolding in_gap
    coded-same q [] = refl
    coded-same q (d ∷ x) = in-same q (stop_at all d) (b d) (map (coded q) x) q refl ∙ ap (λ l. stop_at all d ∷ l) (coded-same q x)

    coded-other : (q r : ℕ) (x : List ℕ) → (q ≡ r → ⊥) → in_gap r (map (coded q) x) ≡ []
    unfolding in_gap
    coded-other q r [] f = refl
    coded-other q r (d ∷ x) f = in-other q (stop_at all d) (b d) (map (coded q) x) r f ∙ coded-other q r x f

    codes-before : (q r : ℕ) (xs : Filling) → r < q → in_gap r (codes_from q xs) ≡ []
    unfolding in_gap codes_from
    codes-before q r [] h = refl
    codes-before q r (x ∷ xs) h =
        in-append r (map (coded q) x) (codes_from (suc q) xs)
        ∙ ap₂ ◌++◌ (coded-other q r x (λ e. omega arith)) (codes-before (suc q) r xs (omega arith))

    -- an earlier gap's stops do not show
    codes-later : (q p g : ℕ) (x : List ℕ) (w : Word) → p < q → sequences_of q g (map (coded p) x ++ w) ≡ sequences_of q g w
    unfolding sequences_of
    codes-later q p zero x w h = refl
    codes-later q p (suc g) x w h =
        ap₂ ◌∷◌ (in-append q (map (coded p) x) w ∙ ap (λ l. l ++ in_gap q w) (coded-other p q x (λ e. omega arith)))
        (codes-later (suc q) p g x w (omega arith))

    codes-sequences : (q : ℕ) (xs : Filling) → sequences_of q (length xs) (codes_from q xs) ≡ named all xs
    unfolding sequences_of codes_from
    codes-sequences q [] = refl
    codes-sequences q (x ∷ xs) =
        ap₂ ◌∷◌
        (in-append q (map (coded q) x) (codes_from (suc q) xs)
        ∙ ap₂ ◌++◌ (coded-same q x) (codes-before (suc q) q xs (omega arith))
        ∙ append-nil (map (stop_at all) x))
        (codes-later (suc q) q (length xs) x (codes_from (suc q) xs) (omega arith) ∙ codes-sequences (suc q) xs)

    -- what a word's digits say is the filling
    module _ (xs : Filling) (h : length xs ≤ 3) (k : length (concat xs) ≤ 7) (pl : Places xs) where
      word-codes : placements all 0 (digits_of 16 (word_of xs)) ≡ codes_from 0 xs
      unfolding word_of
      word-codes =
          let ds : List ℕ = rows_from 0 xs in
          ap (placements all 0) (digits-all 16 ds (omega (arith, length-rows 0 xs)) (rows-below 0 xs (omega arith) pl))
          ∙ placements-zeros (16 - length ds) 0 ds
          ∙ placements-rows 0 0 xs pl

      pub word-sequences : sequences_of 0 (length xs) (placements all 0 (digits_of 16 (word_of xs))) ≡ named all xs
      word-sequences = ap (sequences_of 0 (length xs)) word-codes ∙ codes-sequences 0 xs

      -- and as many placements as stops
      pub word-many : length (placements all 0 (digits_of 16 (word_of xs))) ≡ length (concat xs)
      word-many = ap length word-codes ∙ length-codes 0 xs

-- a word's plan
pub word-plan : (P : Plan) (gs : List Region) (xs : Filling) → Below 64 (drained P gs) → length xs ≡ length gs → length xs ≤ 3 → length (concat xs) ≤ 7
    → Places xs → plan_of P gs (placements (drained P gs) 0 (digits_of 16 (word_of xs))) ≡ plan_at P gs xs
unfolding plan_of
word-plan P gs xs b e h k pl =
    ap (replaced P gs)
    (ap (λ g. sequences_of 0 g (placements all 0 (digits_of 16 (word_of xs)))) (sym e)
    ∙ word-sequences all (λ d. small d (dec_lt (d - 1) (length all))) xs h k pl)
  where
    all : List ℕ
    all = drained P gs

    small : (d : ℕ) → Dec (d - 1 < length all) → stop_at all d < 64
    small d (yes i) = below_at 64 all (d - 1) b i
    small d (no i) = let e : stop_at all d ≡ 0 = get_or-eq_default all 0 (omega arith) in omega arith

-- ---- the code's shifts

pub sixteen : (k : ℕ) → 2 ^ (4 * k) ≡ 16 ^ k
sixteen zero = refl
sixteen (suc k) =
    let e : 4 * suc k ≡ 4 * k + 4 = omega arith in
    let f : 2 ^ 4 ≡ 16 = refl in
    rw (e, pow-add 2 (4 * k) 4, f, sixteen k) (sym (pow-suc 16 k))
