-- A word is read back to its filling, so that a contract can speak of what a word says.
use Prim.Native.Nat.{ℕ, zero, suc, ◌+◌, ◌-◌, ◌*◌, ◌^◌, ◌≤◌, ◌<◌}
use native.Mathlib.Omega.{arith}
use mathlib.Core.Path.{◌≡◌, refl, sym, ap, ap₂, ◌∙◌}
use mathlib.Core.List.{List, [], ◌∷◌, ◌++◌, append-nil}
use lib.ListN.{length, take, get_or, replicate, length-append}
use borrow.Author.Tests.{lt-ltb, le-ltb}
use Rattle.model.specs.Lists.{up_from, without, count, concat}
use Rattle.model.proofs.Lists.{one_same, count-append, concat-append}
use Rattle.rebuild_fillings.specs.Walk.{Filling, Standing}
use Rattle.rebuild_fillings.specs.Rows.{rows_from, word_of, parted, filling_of, done_of, here_of, Reached}
use Rattle.rebuild_fillings.proofs.Places.{standing-start, standing-next, standing-stop, standing-size}
use Rattle.rebuild_fillings.proofs.Rows.{Places, length-rows, rows-below, digits-all, word-start, word_next, word-stop, standing-places, standing-word}

-- ---- the digits of a filling

parted-sequence : (x ds : List ℕ) → ((i : ℕ) → 1 ≤ count i x → i ≤ 7) → parted (x ++ ds) ≡ (x ++ (parted ds).0, (parted ds).1)
parted-sequence [] ds h = refl
parted-sequence (d ∷ x) ds h =
    let k : d ≤ 7 = h d (omega (arith, one_same d d refl)) in
    rw (lt-ltb d 8 (omega arith), parted-sequence x ds (λ i c. h i (omega arith)))

parted-gap : (q : ℕ) (ds : List ℕ) → parted ((8 + q) ∷ ds) ≡ ([], (parted ds).0 ∷ (parted ds).1)
parted-gap q ds = rw (le-ltb (8 + q) 8 (omega arith))

parted-rows : (q : ℕ) (xs : Filling) → Places xs → parted (rows_from q xs) ≡ ([], xs)
parted-rows q [] pl = refl
parted-rows q (x ∷ xs) pl =
    let i = parted-rows (suc q) xs (λ i k. pl i (omega (arith, count-append i x (concat xs)))) in
    parted-gap q (x ++ rows_from (suc q) xs)
    ∙ rw (parted-sequence x (rows_from (suc q) xs) (λ i k. (pl i (omega (arith, count-append i x (concat xs)))).1), i, append-nil)

parted-zeros : (k : ℕ) (ds : List ℕ) → (parted (replicate k 0 ++ ds)).1 ≡ (parted ds).1
parted-zeros zero ds = refl
parted-zeros (suc k) ds = parted-zeros k ds

module _ (xs : Filling) (h : length xs ≤ 3) (k : length (concat xs) ≤ 7) (pl : Places xs) where
  pub read_back : filling_of (word_of xs) ≡ xs
  unfolding filling_of word_of
  read_back =
      let ds : List ℕ = rows_from 0 xs in
      ap (λ (l : List ℕ). (parted l).1) (digits-all 16 ds (omega (arith, length-rows 0 xs)) (rows-below 0 xs (omega arith) pl))
      ∙ parted-zeros (16 - length ds) ds
      ∙ ap (λ (r : List ℕ × Filling). r.1) (parted-rows 0 xs pl)

-- different fillings have different words
pub word-tells : (xs ys : Filling) → length xs ≤ 3 → length ys ≤ 3 → length (concat xs) ≤ 7 → length (concat ys) ≤ 7 → Places xs → Places ys
    → word_of xs ≡ word_of ys → xs ≡ ys
word-tells xs ys a b c d p q e = sym (read_back xs a c p) ∙ ap filling_of e ∙ read_back ys b d q

-- ---- a call's word

front : (done : Filling) (here : List ℕ) → take (length done) (done ++ here ∷ []) ≡ done
front [] here = refl
front (x ∷ done) here = ap (λ l. x ∷ l) (front done here)

back : (done : Filling) (here : List ℕ) → get_or (done ++ here ∷ []) (length done) [] ≡ here
back [] here = refl
back (x ∷ done) here = back done here

module _ (m q : ℕ) (left : List ℕ) (done : Filling) (here : List ℕ) (st : Standing m q left done here) (hm : m ≤ 7) (hq : q ≤ 2) where
  read_all : filling_of (word_of (done ++ here ∷ [])) ≡ done ++ here ∷ []
  read_all =
      let c : length (concat (done ++ here ∷ [])) ≡ length (concat done) + length here = simp (concat-append, append-nil, length-append) in
      read_back (done ++ here ∷ []) (rw length-append (omega (arith, st.gaps))) (omega (arith, standing-size m q left done here st))
      (standing-places m q left done here st hm)

  pub read_done : done_of q (word_of (done ++ here ∷ [])) ≡ done
  read_done = ap₂ take (sym st.gaps) read_all ∙ front done here

  pub read_here : here_of q (word_of (done ++ here ∷ [])) ≡ here
  read_here = ap₂ (λ (l : Filling) (i : ℕ). get_or l i []) read_all (sym st.gaps) ∙ back done here

  pub reached : (w : ℕ) → w ≡ word_of (done ++ here ∷ []) → Reached m q left w
  reached w e = rw e (record {
    few = hm;
    gap = hq;
    standing = rw (read_done, read_here) st;
    says = rw (read_done, read_here);
  })

-- ---- its steps

pub reached-start : (m : ℕ) → m ≤ 7 → Reached m 0 (up_from 1 m) 8
reached-start m h = reached m 0 (up_from 1 m) [] [] (standing-start m) h (omega arith) 8 (sym word-start)

module _ (m q : ℕ) (left : List ℕ) (w : ℕ) (r : Reached m q left w) where
  abbrev done : Filling
  done = done_of q w

  abbrev here : List ℕ
  here = here_of q w

  pub reached-below : w < 16 ^ 10
  reached-below = rw r.says (standing-word m q left done here r.standing r.few r.gap)

  -- the next gap is opened
  next_word : w * 16 + 8 + (q + 1) ≡ word_of ((done ++ here ∷ []) ++ [] ∷ [])
  next_word = ap₂ (λ (a b : ℕ). a * 16 + 8 + (b + 1)) r.says (sym r.standing.gaps) ∙ sym (word_next done here)

  next-standing : Standing m (q + 1) left (done ++ here ∷ []) []
  next-standing = standing-next m q left done here r.standing

  module _ (h : q + 1 ≤ 2) where
    pub reached-next : Reached m (q + 1) left (w * 16 + 8 + (q + 1))
    reached-next = reached m (q + 1) left (done ++ here ∷ []) [] next-standing r.few h (w * 16 + 8 + (q + 1)) next_word

    pub next-done : done_of (q + 1) (w * 16 + 8 + (q + 1)) ≡ done ++ here ∷ []
    next-done = ap (done_of (q + 1)) next_word ∙ read_done m (q + 1) left (done ++ here ∷ []) [] next-standing r.few h

    pub next_here : here_of (q + 1) (w * 16 + 8 + (q + 1)) ≡ []
    next_here = ap (here_of (q + 1)) next_word ∙ read_here m (q + 1) left (done ++ here ∷ []) [] next-standing r.few h

  -- a stop more is placed
  module _ (s : ℕ) (h : 1 ≤ count s left) where
    stop-word : w * 16 + s ≡ word_of (done ++ (here ++ s ∷ []) ∷ [])
    stop-word = ap (λ (a : ℕ). a * 16 + s) r.says ∙ sym (word-stop done here s)

    stop-standing : Standing m q (without s left) done (here ++ s ∷ [])
    stop-standing = standing-stop m q left done here r.standing s h

    pub reached-stop : Reached m q (without s left) (w * 16 + s)
    reached-stop = reached m q (without s left) done (here ++ s ∷ []) stop-standing r.few r.gap (w * 16 + s) stop-word

    pub stop-done : done_of q (w * 16 + s) ≡ done
    stop-done = ap (done_of q) stop-word ∙ read_done m q (without s left) done (here ++ s ∷ []) stop-standing r.few r.gap

    pub stop-here : here_of q (w * 16 + s) ≡ here ++ s ∷ []
    stop-here = ap (here_of q) stop-word ∙ read_here m q (without s left) done (here ++ s ∷ []) stop-standing r.few r.gap
