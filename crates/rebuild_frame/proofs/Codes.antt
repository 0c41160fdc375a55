-- A word of a frame, read digit by digit.
use Prim.Native.Nat.{ℕ, zero, suc, ◌+◌, ◌-◌, ◌*◌, ◌/◌, ◌%◌, ◌^◌, ◌≤◌, ◌<◌}
use native.Mathlib.Omega.{arith}
use native.Mathlib.Numerals.{add-one}
use native.Mathlib.Decide.{dec_lt}
use mathlib.Core.Path.{◌≡◌, refl, sym, ap, ◌∙◌}
use mathlib.Core.List.{List, [], ◌∷◌, ◌++◌, append_assoc, append-nil}
use lib.ListN.{length, take, drop, get_or, set, replicate, length-append, length-drop, length-set, get_or-eq_default}
use lib.Seq.{get_or-take, get_or-drop, take-suc-set, length-take-le}
use Rattle.model.specs.Lists.{up_from, count, concat}
use Rattle.model.specs.Plan.{Plan}
use Rattle.model.specs.declared.Region.{Region}
use Rattle.model.specs.Region.{drained}
use Rattle.model.proofs.Lists.{count-append, one_same, one-other}
use Rattle.model.proofs.Counts.{Below, below_at}
use Rattle.model.proofs.Members.{count-in}
use Rattle.model.proofs.Arrangements.{drained-le}
use Rattle.rebuild_words.specs.Words.{Word, code}
use Rattle.rebuild_fillings.specs.Walk.{Filling, stop_at}
use Rattle.rebuild_fillings.specs.Rows.{rows_from, word_of, digits_of, placements, filling_of}
use Rattle.rebuild_fillings.proofs.Places.{in-up_from}
use Rattle.rebuild_fillings.proofs.Rows.{Places, length-rows, rows-below, digits-all, placements-zero, placements-stop, placements-gap, word-many, sixteen}
use Rattle.rebuild_fillings.proofs.Full.{full-places, full-few}
use Rattle.rebuild_tables.specs.declared.frame.Frame.{Frame}
use Rattle.rebuild_tables.specs.Frame.{gap_count, drained_count, stops_in, framed_plan, framed_regions, Placeable}

-- ---- the digits of a word

-- the digit at place i of sixteen, as the code takes it
abbrev pub digit_at : ℕ → ℕ → ℕ
digit_at w i = w / 2 ^ (60 - 4 * i) % 16

digit-high : (w i : ℕ) → i < 16 → digit_at w i ≡ w / 16 ^ (15 - i) % 16
digit-high w i h =
    let c : 60 - 4 * i ≡ 4 * (15 - i) = omega arith in
    rw (c, sixteen (15 - i))

-- it comes first of those that are left
digit-next : (w i : ℕ) → i < 16 → digits_of (16 - i) w ≡ digit_at w i ∷ digits_of (16 - (i + 1)) w
unfolding digits_of
digit-next w i h =
    let a : 16 - i ≡ suc (15 - i) = omega arith in
    let b : 16 - (i + 1) ≡ 15 - i = omega arith in
    rw (a, b, digit-high w i h)

digit-in : (n w i : ℕ) → i < n → 1 ≤ count (w / 16 ^ i % 16) (digits_of n w)
unfolding digits_of
digit-in zero w i h = absurd (omega arith)
digit-in (suc n) w i h = elim (dec_lt i n) [
  | yes k ↦ omega (arith, digit-in n w i k)
  | no k ↦ let e : i ≡ n = omega arith in omega (arith, one_same (w / 16 ^ i % 16) (w / 16 ^ n % 16) (ap (λ j. w / 16 ^ j % 16) e))
]

-- a digit of a stop is one of the filling
rows-count : (d q : ℕ) (xs : Filling) → d ≤ 7 → count d (rows_from q xs) ≡ count d (concat xs)
rows-count d q [] h = refl
rows-count d q (x ∷ xs) h =
    omega (
      arith,
      one-other d (8 + q) (λ e. omega arith),
      count-append d x (rows_from (suc q) xs),
      count-append d x (concat xs),
      rows-count d (suc q) xs h,
    )

zeros-count : (d k : ℕ) → 1 ≤ d → count d (replicate k 0) ≡ 0
zeros-count d zero h = refl
zeros-count d (suc k) h = omega (arith, one-other d 0 (λ e. omega arith), zeros-count d k h)

module _ (xs : Filling) (h : length xs ≤ 3) (k : length (concat xs) ≤ 7) (pl : Places xs) where
  word_count : (d : ℕ) → 1 ≤ d → d ≤ 7 → count d (digits_of 16 (word_of xs)) ≡ count d (concat xs)
  unfolding word_of
  word_count d a b =
      let ds : List ℕ = rows_from 0 xs in
      ap (count d) (digits-all 16 ds (omega (arith, length-rows 0 xs)) (rows-below 0 xs (omega arith) pl))
      ∙ omega (arith, count-append d (replicate (16 - length ds) 0) ds, zeros-count d (16 - length ds) a, rows-count d 0 xs b)

-- ---- a word of a frame

-- the placements that it says
abbrev pub said : Frame → ℕ → Word
said f w = placements (stops_in f) 0 (digits_of 16 w)

-- the codes of the digits before place i are written, and the other digits are read in gap q
pub record Read (f : Frame) (w i m q : ℕ) (codes : List ℕ) : Type 0 where
  pub up_to : i ≤ 16
  pub few : m ≤ 7
  pub low : q ≤ 7
  pub long : length codes ≡ 7
  pub says : take m codes ++ placements (stops_in f) q (digits_of (16 - i) w) ≡ said f w

pub read_same : (f : Frame) (w i m q : ℕ) (codes : List ℕ) → Read f w i m q codes → (codes₁ : List ℕ) (m₁ q₁ : ℕ)
    → codes₁ ≡ codes → m₁ ≡ m → q₁ ≡ q → Read f w i m₁ q₁ codes₁
read_same f w i m q codes r codes₁ m₁ q₁ a b c = rw (a, b, c) r

module _ (f : Frame) where
  abbrev P : Plan
  P = framed_plan f

  abbrev gs : List Region
  gs = framed_regions f

  pub gaps-few : gap_count f ≤ 3
  gaps-few = omega (arith, f.framed.gaps, f.framed.gapped.few)

  pub stops-below : Below 64 (drained P gs)
  stops-below s h = omega (arith, f.plan.lent.below s (omega (arith, drained-le P gs f.framed.gapped.stretches s)), f.plan.sizes.stops)

  stops-long : length (stops_in f) ≡ drained_count f
  stops-long = length-take-le (drained_count f) (drop 1 f.listed) (rw length-drop (omega (arith, f.framed.places, f.framed.few)))

  pub drained-many : drained_count f ≡ length (drained P gs)
  drained-many = sym stops-long ∙ ap length f.framed.stops

  stop-below : (d : ℕ) → stop_at (stops_in f) d < 64
  stop-below d = elim (dec_lt (d - 1) (length (stops_in f))) [
    | yes h ↦ below_at 64 (stops_in f) (d - 1) (rw f.framed.stops stops-below) h
    | no h ↦ let e : stop_at (stops_in f) d ≡ 0 = get_or-eq_default (stops_in f) 0 (omega arith) in omega arith
  ]

  -- the stop at a place stands in the frame
  module _ (d : ℕ) (a : 1 ≤ d) (b : d ≤ drained_count f) where
    pub stop-there : get_or f.listed d 0 ≡ stop_at (stops_in f) d
    stop-there =
        let e : 1 + (d - 1) ≡ d = omega arith in
        sym (get_or-take (drained_count f) (drop 1 f.listed) (d - 1) 0 (omega arith) ∙ get_or-drop 1 f.listed (d - 1) 0 ∙ ap (λ i. get_or f.listed i 0) e)

    pub stop-small : get_or f.listed d 0 < 64
    stop-small = omega (arith, stop-there, stop-below d)

  module _ (w : ℕ) (W : Placeable f w) where
    abbrev xs : Filling
    xs = filling_of w

    pub filling-gaps : length xs ≤ 3
    filling-gaps = omega (arith, W.full.gaps, gaps-few)

    pub filling-few : length (concat xs) ≤ 7
    filling-few = omega (arith, full-few (gap_count f) (drained_count f) xs W.full, f.framed.few)

    pub filling-places : Places xs
    filling-places = full-places (gap_count f) (drained_count f) xs W.full f.framed.few

    codes-few : length (said f w) ≤ 7
    codes-few =
        omega (
          arith,
          ap (λ v. length (placements (stops_in f) 0 (digits_of 16 v))) W.says,
          word-many (stops_in f) stop-below xs filling-gaps filling-few filling-places,
          filling-few,
        )

    digit-known : (i : ℕ) → i < 16 → 1 ≤ digit_at w i → digit_at w i ≤ 7 → digit_at w i ≤ drained_count f
    digit-known i h a b =
        let d : ℕ = digit_at w i in
        let c : 1 ≤ count d (digits_of 16 w) = rw (digit-high w i h) (digit-in 16 w (15 - i) (omega arith)) in
        let e : count d (digits_of 16 w) ≡ count d (concat xs) = ap (λ v. count d (digits_of 16 v)) W.says ∙ word_count xs filling-gaps filling-few filling-places d a b in
        let r = in-up_from d 1 (drained_count f) (count-in d (up_from 1 (drained_count f)) (omega (arith, W.full.each d))) in
        omega arith

    -- ---- digit by digit

    pub read_none : (codes : List ℕ) → length codes ≡ 7 → Read f w 0 0 0 codes
    read_none codes e = record { up_to = omega arith; few = omega arith; low = omega arith; long = e; says = refl }

    pub read_all : (i m q : ℕ) (codes : List ℕ) → Read f w i m q codes → 16 ≤ i → take m codes ≡ said f w
    unfolding digits_of placements
    read_all i m q codes r h =
        let e : 16 - i ≡ 0 = omega arith in
        sym (append-nil (take m codes)) ∙ ap (λ k. take m codes ++ placements (stops_in f) q (digits_of k w)) (sym e) ∙ r.says

    module _ (i m q : ℕ) (codes : List ℕ) (r : Read f w i m q codes) (h : i < 16) where
      abbrev d : ℕ
      d = digit_at w i

      abbrev after : ℕ → Word
      after g = placements (stops_in f) g (digits_of (16 - (i + 1)) w)

      -- what was to be read, with the next digit apart
      now-says : take m codes ++ placements (stops_in f) q (d ∷ digits_of (16 - (i + 1)) w) ≡ said f w
      now-says = ap (λ l. take m codes ++ placements (stops_in f) q l) (sym (digit-next w i h)) ∙ r.says

      -- a digit that opens a gap
      pub read-gap : 8 ≤ d → Read f w (i + 1) m (d - 8) codes
      read-gap k = record {
        up_to = omega arith;
        few = r.few;
        low = omega arith;
        long = r.long;
        says =
            let e : 8 + (d - 8) ≡ d = omega arith in
            ap (λ l. take m codes ++ l)
            (sym (placements-gap (stops_in f) q (d - 8) (digits_of (16 - (i + 1)) w))
            ∙ ap (λ a. placements (stops_in f) q (a ∷ digits_of (16 - (i + 1)) w)) e)
            ∙ now-says;
      }

      -- one that says nothing
      pub read-zero : d ≡ 0 → Read f w (i + 1) m q codes
      read-zero e = record {
        up_to = omega arith;
        few = r.few;
        low = r.low;
        long = r.long;
        says =
            ap (λ l. take m codes ++ l)
            (sym (placements-zero (stops_in f) q (digits_of (16 - (i + 1)) w)) ∙ ap (λ a. placements (stops_in f) q (a ∷ digits_of (16 - (i + 1)) w)) (sym e))
            ∙ now-says;
      }

      -- one that places a stop
      module _ (a : d < 8) (b : d ≡ 0 → ⊥) where
        some : 1 ≤ d
        some = omega arith

        pub read_known : get_or f.listed d 0 < 64
        read_known = stop-small d some (digit-known i h some (omega arith))

        placed-says : take m codes ++ (code q (get_or f.listed d 0) ∷ after q) ≡ said f w
        placed-says =
            ap (λ l. take m codes ++ l)
            (ap (λ s. code q s ∷ after q) (stop-there d some (digit-known i h some (omega arith)))
            ∙ sym (placements-stop (stops_in f) q d (digits_of (16 - (i + 1)) w) some (omega arith)))
            ∙ now-says

        pub read-room : m < 7
        read-room =
            omega (
              arith,
              ap length placed-says,
              length-append (take m codes) (code q (get_or f.listed d 0) ∷ after q),
              length-take-le m codes (omega (arith, r.few, r.long)),
              codes-few,
            )

        pub read-stop : Read f w (i + 1) (m + 1) q (set codes m (code q (get_or f.listed d 0)))
        read-stop = record {
          up_to = omega arith;
          few = omega (arith, read-room);
          low = r.low;
          long = length-set codes m (code q (get_or f.listed d 0)) ∙ r.long;
          says =
              ap (λ l. l ++ after q)
              (ap (λ k. take k (set codes m (code q (get_or f.listed d 0)))) (add-one m)
              ∙ take-suc-set codes m (code q (get_or f.listed d 0)) (omega (arith, read-room, r.long)))
              ∙ append_assoc (take m codes) (code q (get_or f.listed d 0) ∷ []) (after q)
              ∙ placed-says;
        }
