-- Drained stops are listed one after another, and gap by gap.
use Prim.Native.Nat.{ℕ, suc, ◌+◌, ◌-◌, ◌*◌, ◌^◌, ◌≤◌, ◌<◌}
use native.Mathlib.Omega.{arith}
use mathlib.Core.Path.{◌≡◌, refl, sym, ap, ap₂, ◌∙◌}
use mathlib.Core.List.{List, [], ◌∷◌, append_assoc}
use native.Mathlib.Numerals.{add-one}
use lib.ListN.{length, get_or, set}
use lib.Seq.{paste, paste-zero, paste-suc, take-length}
use Rattle.model.specs.Lists.{up_from}
use Rattle.pasting.specs.Put.{put}
use Rattle.rebuild_fillings.specs.Rows.{number_from}
use Rattle.rebuild_frame.specs.Listing.{gap_digits, Listable, GapListed}

-- a turn's store takes the copy of i elements of s to the copy of i + 1
turn : (d dst s : List ℕ) (at i x : ℕ) → dst ≡ paste d at s i → at + i < length d → i < length s → x ≡ get_or s i 0
    → set dst (at + i) x ≡ paste d at s (i + 1)
turn d dst s at i x e hd hs ex = rw (e, ex, add-one) (paste-suc d at s i 0 hd hs)

-- the copy of all elements is the whole
pasted : (d dst s : List ℕ) (at i : ℕ) → dst ≡ paste d at s i → i ≡ length s → dst ≡ put d at s
pasted d dst s at i e h = rw (e, h, take-length, append_assoc)

-- ---- one gap

-- a number grows with its digits
number-grows : (w : ℕ) (ds : List ℕ) → w ≤ number_from w ds
number-grows w [] = omega arith
number-grows w (d ∷ ds) = omega (arith, number-grows (w * 16 + d) ds)

-- the first i stops of a part are listed behind c others; w is the word before them, with the gap opened
pub record Listing (old part : List ℕ) (c w i : ℕ) (frame : List ℕ) (count word : ℕ) : Type 0 where
  pub up_to : i ≤ length part
  pub number : count ≡ c + i
  pub says : number_from word (up_from (c + i + 1) (length part - i)) ≡ number_from w (up_from (c + 1) (length part))
  pub holds : frame ≡ paste old (1 + c) part i

module _ (old part : List ℕ) (q c w : ℕ) (L : Listable old q part c w) where
  -- the word with the gap opened
  abbrev opened : ℕ
  opened = w * 16 + 8 + q

  whole : number_from opened (up_from (c + 1) (length part)) ≡ number_from w (gap_digits q c (length part))
  whole = let e : opened ≡ w * 16 + (8 + q) = omega arith in ap (λ a. number_from a (up_from (c + 1) (length part))) e

  pub opened-fits : opened < 16 ^ 10
  opened-fits = omega (arith, number-grows opened (up_from (c + 1) (length part)), whole, L.fits)

  pub listing_none : Listing old part c opened 0 old c opened
  listing_none =
      let e : c + 0 + 1 ≡ c + 1 = omega arith in
      let z : length part - 0 ≡ length part = omega arith in
      record {
        up_to = omega arith;
        number = omega arith;
        says = ap₂ (λ a b. number_from opened (up_from a b)) e z;
        holds = paste-zero old (1 + c) part;
      }

  module _ (i : ℕ) (frame : List ℕ) (count word : ℕ) (l : Listing old part c opened i frame count word) where
    module _ (h : i < length part) where
      pub listing-room : count < 7
      listing-room = omega (arith, l.number, L.room)

      -- one digit more
      digit : number_from (word * 16 + (count + 1)) (up_from (c + (i + 1) + 1) (length part - (i + 1))) ≡ number_from opened (up_from (c + 1) (length part))
      digit =
          let a : length part - i ≡ suc (length part - (i + 1)) = omega arith in
          let b : suc (c + i + 1) ≡ c + (i + 1) + 1 = omega arith in
          let d : c + i + 1 ≡ count + 1 = omega (arith, l.number) in
          sym (ap₂ (λ x y. number_from (word * 16 + x) (up_from y (length part - (i + 1)))) d b) ∙ sym (ap (λ k. number_from word (up_from (c + i + 1) k)) a) ∙ l.says

      pub listing-fits : word * 16 + (count + 1) < 16 ^ 10
      listing-fits =
          omega (
            arith,
            number-grows (word * 16 + (count + 1)) (up_from (c + (i + 1) + 1) (length part - (i + 1))),
            digit,
            whole,
            L.fits,
          )

      pub listing-more : Listing old part c opened (i + 1) (set frame (count + 1) (get_or part i 0)) (count + 1) (word * 16 + (count + 1))
      listing-more =
          let e : count + 1 ≡ 1 + c + i = omega (arith, l.number) in
          record {
            up_to = omega arith;
            number = omega (arith, l.number);
            says = digit;
            holds =
                ap (λ k. set frame k (get_or part i 0)) e ∙ turn old frame part (1 + c) i (get_or part i 0) l.holds (omega (arith, L.long, L.room)) h refl;
          }

    pub listed : length part ≤ i → GapListed old q part c w frame count word
    listed h =
        let e : i ≡ length part = omega (arith, l.up_to) in
        let z : length part - i ≡ 0 = omega arith in
        record {
          number = omega (arith, l.number);
          says = sym (ap (λ k. number_from word (up_from (c + i + 1) k)) z) ∙ l.says ∙ whole;
          holds = pasted old frame part (1 + c) i l.holds e;
        }
