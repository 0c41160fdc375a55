-- A walk's word: one number whose digits, of base 16, say what is placed. 8 + q opens gap q, i from 1 to 7 places the stop at place i.
use Rattle.std.specs.Prelude.{ℕ, zero, suc, ◌+◌, ◌-◌, ◌*◌, ◌/◌, ◌%◌, ◌^◌, ◌≤◌, ◌≡◌, cond, List, [], ◌∷◌, ◌++◌, eqb, ltb, length, take, get_or}
use Rattle.model.specs.Lists.{concat, count, up_from}
use Rattle.rebuild_words.specs.Words.{Word, code}
use Rattle.rebuild_fillings.specs.Walk.{Filling, stop_at, Standing}

-- the number with these digits, behind those of w
abbrev pub number_from : ℕ → List ℕ → ℕ
number_from w [] = w
number_from w (d ∷ ds) = number_from (w * 16 + d) ds

-- the digits of sequences in the gaps from q on
abbrev pub rows_from : ℕ → Filling → List ℕ
rows_from q [] = []
rows_from q (x ∷ xs) = (8 + q) ∷ (x ++ rows_from (suc q) xs)

-- the word of a filling
unfoldable pub word_of : Filling → ℕ
word_of xs = number_from 0 (rows_from 0 xs)

-- the last of some digits, d where there is none
abbrev pub last_from : ℕ → List ℕ → ℕ
last_from d [] = d
last_from d (x ∷ xs) = last_from x xs

-- ---- reading a word

-- the lowest n digits, the highest of them first
unfoldable pub digits_of : ℕ → ℕ → List ℕ
digits_of zero w = []
digits_of (suc n) w = w / 16 ^ n % 16 ∷ digits_of n w

-- the placements that digits say, read in gap q; 0 says nothing
unfoldable pub placements : List ℕ → ℕ → List ℕ → Word
placements all q [] = []
placements all q (d ∷ ds) =
    cond (ltb d 8) (cond (eqb d 0) (placements all q ds) (code q (stop_at all d) ∷ placements all q ds)) (placements all (d - 8) ds)

-- what stands before the first gap digit, and the sequences of the gaps
abbrev pub parted : List ℕ → List ℕ × Filling
parted [] = ([], [])
parted (d ∷ ds) = let r = parted ds in cond (ltb d 8) (d ∷ r.0, r.1) ([], r.0 ∷ r.1)

-- the filling that a word says
unfoldable pub filling_of : ℕ → Filling
unfolding digits_of
filling_of w = (parted (digits_of 16 w)).1

-- the sequences of the gaps before gap q, and that of gap q
abbrev pub done_of : ℕ → ℕ → Filling
done_of q w = take q (filling_of w)

abbrev pub here_of : ℕ → ℕ → List ℕ
here_of q w = get_or (filling_of w) q []

-- the word of a call in gap q of at most three, with some of the places 1 to m placed, m at most 7, and those of `left` left
pub record Reached (m q : ℕ) (left : List ℕ) (w : ℕ) : Type 0 where
  pub few : m ≤ 7
  pub gap : q ≤ 2
  pub standing : Standing m q left (done_of q w) (here_of q w)
  pub says : w ≡ word_of (done_of q w ++ here_of q w ∷ [])

-- a sequence for each of p gaps, of some of the places 1 to m, none of them twice
pub record Full (p m : ℕ) (xs : Filling) : Type 0 where
  pub gaps : length xs ≡ p
  pub each : (i : ℕ) → count i (concat xs) ≤ count i (up_from 1 m)

-- w is the word of such a filling
pub record Worded (p m w : ℕ) : Type 0 where
  pub full : Full p m (filling_of w)
  pub says : w ≡ word_of (filling_of w)
