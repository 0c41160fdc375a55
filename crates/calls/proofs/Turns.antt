-- What is left from turn to turn, and what was answered before it.
use mathlib.Core.Path.{◌≡◌, refl, sym, ◌∙◌, ap}
use Prim.Native.Nat.{ℕ, zero, suc, ◌+◌, ◌-◌, ◌≤◌, ◌<◌}
use native.Mathlib.Omega.{arith}
use mathlib.Core.List.{List, [], ◌∷◌, ◌++◌, append-nil, append_assoc}
use lib.ListN.{length, take, drop, length-append, length-drop, take-append-drop}
use lib.Seq.{take_all, take-take, take-nil, drop-drop, length-take-le}
use Rattle.model.specs.Lists.{part, for_each}
use Rattle.model.specs.File.{Stands}
use Rattle.model.proofs.Pieces.{for_each-append}
use Rattle.std.specs.Prelude.{Option, Some, Result, Ok}
use Rattle.std.specs.declared.io.Error.{Error}
use Rattle.file_input.specs.Filling.{Refilled}
use Rattle.sheet_answer.specs.Sheets.{Sheet, sheet_of, ReadableSheet, longest_sheet, sheets_of, ReadableSheets, printed_sheets}
use Rattle.sheet_answer.specs.declared.SheetRead.{SheetRead}
use Rattle.sheet_answer.specs.declared.SheetRead.TheVariants as R
use Rattle.sheet_answer.specs.Running.{Answered, NoSheet, AnswersSheet}
use Rattle.calls.specs.declared.Outcome.{Outcome}
use Rattle.calls.specs.declared.Outcome.TheVariants as T
use Rattle.calls.specs.declared.Ended.TheVariants as E
use Rattle.calls.specs.Rest.{Still, Keeps, Turned, Input, AnswersAll}

-- ---- parts of a buffer

drop-take : (k m : ℕ) (l : List ℕ) → drop k (take m l) ≡ take (m - k) (drop k l)
drop-take zero m l = let z : m - 0 ≡ m = omega arith in rw z
drop-take (suc k) zero l = let z : 0 - suc k ≡ 0 = omega arith in rw z
drop-take (suc k) (suc m) [] = sym (take-nil (suc m - suc k))
drop-take (suc k) (suc m) (x ∷ l) = let z : suc m - suc k ≡ m - k = omega arith in rw z (drop-take k m l)

-- ---- what is read on

-- a full buffer that was read on
pub read-on : (at end n : ℕ) (old new : List ℕ) (a : Result ℕ Error) → Refilled at old new a → a ≡ Ok n → at ≤ end → end ≡ length old
    → longest_sheet ≤ length old → Still at end old new 0 n
read-on at end n old new a f e l w big =
    let k : Refilled at old new (Ok n) = rw e at f in
    let z : n - 0 ≡ n = omega arith in
    let front : take (end - at) (take n new) ≡ part at end old =
    take-take (end - at) n new (omega (arith, k.0)) ∙ rw w (k.2 ∙ sym (take_all (length old - at) (drop at old) (omega (arith, length-drop at old)))) in
    record {
      order = omega arith;
      within = k.1;
      more = drop (end - at) (take n new);
      same = ap (λ m. take m new) z ∙ sym (take-append-drop (end - at) (take n new)) ∙ ap (λ l. l ++ drop (end - at) (take n new)) front;
      unread = λ u. absurd (omega arith);
      uncut = λ j. omega arith;
    }

-- ---- one turn

module _ (at end : ℕ) (old new : List ℕ) (a : Option (ℕ × ℕ)) (k : Keeps at end old new a) (from to : ℕ) (e : a ≡ Some (from, to)) where
  pub still : Still at end old new from to
  still = rw e at k

  module _ (out : List ℕ) where
    pub turn-done : from ≡ to → Turned at end old new out out T.Done
    turn-done f = (from, (rw (sym f) at still), refl)

    module _ (printed : List ℕ) (b : SheetRead) (h : AnswersSheet (take (to - 0) new) from out printed b) where
      there : AnswersSheet (take to new) from out printed b
      there = let z : to - 0 ≡ to = omega arith in rw z at h

      pub turn-answered : (next r : ℕ) → b ≡ R.Answered next r → Turned at end old new out printed (T.Answered next to r)
      turn-answered next r f = (from, still, rw f at there)

      pub turn-refused : (r : ℕ) → b ≡ R.Bad r → from < to → Turned at end old new out printed (T.Refused r)
      turn-refused r f l = (from, to, still, l, rw f at there)

-- ---- what was answered so far

pub record Past (at₀ end₀ : ℕ) (old new : List ℕ) (at end printed : ℕ) : Type 0 where
  pub sheets : List Sheet
  pub input : Input at₀ end₀ old sheets (part at end new)
  pub count : printed ≡ length (printed_sheets sheets)
  pub kept : end₀ < length old → end < length new

readable-more : (Ss : List Sheet) (S : Sheet) → ReadableSheets Ss → ReadableSheet S → ReadableSheets (Ss ++ (S ∷ []))
readable-more [] S rs r = (r, tt)
readable-more (Z ∷ Ss) S rs r = (rs.0, readable-more Ss S rs.1 r)

-- what is made of one more sheet stands after what is made of the others
one_more : (f : Sheet → List ℕ) (Ss : List Sheet) (S : Sheet) (rest : List ℕ) → for_each Ss f ++ (f S ++ rest) ≡ for_each (Ss ++ (S ∷ [])) f ++ rest
one_more f Ss S rest = rw (for_each-append, append-nil, append_assoc)

-- a piece that stands in the bytes up to a position is followed by the other bytes up to there
piece-off : (bytes : List ℕ) (from to next : ℕ) (p : List ℕ) → Stands (take to bytes) from p → next ≡ from + length p → part from to bytes ≡ p ++ part next to bytes
piece-off bytes from to next p s e =
    let k = length p in
    let z : to - from - k ≡ to - next = omega arith in
    let here : drop from (take to bytes) ≡ part from to bytes = drop-take from to bytes in
    let tail : drop k (part from to bytes) ≡ part next to bytes =
    drop-take k (to - from) (drop from bytes) ∙ (λ i. take (z i) (drop-drop k from bytes i)) ∙ ap (λ n. take (to - next) (drop n bytes)) (sym e) in
    sym (take-append-drop k (part from to bytes)) ∙ (λ i. (ap (take k) (sym here) ∙ s) i ++ tail i)

module _ (at₀ end₀ : ℕ) (old mid new : List ℕ) (at end printed : ℕ) (p : Past at₀ end₀ old mid at end printed) (long : length new ≡ length mid) where
  module _ (from to : ℕ) (s : Still at end mid new from to) where
    -- the input, as far as it was read now
    further : Input at₀ end₀ old p.sheets (part from to new)
    further =
        let I = p.input in
        record {
          readable = I.readable;
          more = I.more ++ s.more;
          text = sym (append_assoc (part at₀ end₀ old) I.more s.more)
              ∙ ap (λ l. l ++ s.more) I.text
              ∙ append_assoc (sheets_of p.sheets) (part at end mid) s.more
              ∙ ap (λ l. sheets_of p.sheets ++ l) (sym s.same);
          unread = λ l. let m : I.more ≡ [] = I.unread l in
              let n : s.more ≡ [] = (s.unread (p.kept l)).3 in
              λ i. m i ++ n i;
        }

    past_more : (out text : List ℕ) (next r : ℕ) → Answered (take to new) from next out text r → Past at₀ end₀ old new next to (printed + r)
    past_more out text next r a =
        let I = further in
        let S = a.sheet in
        record {
          sheets = p.sheets ++ (S ∷ []);
          input = record {
            readable = readable-more p.sheets S I.readable a.there.readable;
            more = I.more;
            text = I.text
                ∙ ap (λ l. sheets_of p.sheets ++ l) (piece-off new from to next (sheet_of S) a.there.stands a.there.end)
                ∙ one_more sheet_of p.sheets S (part next to new);
            unread = I.unread;
          };
          count = simp (for_each-append, length-append) (omega (arith, p.count, a.prints.count));
          kept = λ l. let u = s.unread (p.kept l) in omega (arith, p.kept l, u.2);
        }

    past-refused : (out text : List ℕ) (r : ℕ) → from < to → NoSheet (take to new) from out text r → AnswersAll at₀ end₀ old (E.Refused (printed + r))
    past-refused out text r l n = (
      p.sheets,
      part from to new,
      further,
      rw (length-take-le (to - from) (drop from new) (omega (arith, length-drop from new, s.within))) (omega arith),
      (λ k S h.
          n.none (from + k) S
          (record {
            stands = ap (take (length (sheet_of S))) (drop-take from to new) ∙ h.stands;
            end = omega (arith, h.end);
            readable = h.readable;
          })),
      rw length-append (omega (arith, p.count, n.prints.count)),
    )

  module _ (out text : List ℕ) (a : Outcome) (t : Turned at end mid new out text a) where
    module _ (next to r : ℕ) (e : a ≡ T.Answered next to r) where
      answer : Turned at end mid new out text (T.Answered next to r)
      answer = rw e at t

      pub answered : Past at₀ end₀ old new next to (printed + r)
      answered = past_more answer.0 to answer.1 out text next r answer.2

      pub left-within : (next ≤ to) × (to ≤ length mid) × (r ≤ length out)
      left-within =
          let s = answer.1 in
          let b = answer.2 in
          (omega (arith, b.within, length-take-le to new (omega (arith, s.within))), s.within, b.fits)

    module _ (r : ℕ) (e : a ≡ T.Refused r) where
      refusal : Turned at end mid new out text (T.Refused r)
      refusal = rw e at t

      pub refused : AnswersAll at₀ end₀ old (E.Refused (printed + r))
      refused = past-refused refusal.0 refusal.1 refusal.2 out text r refusal.3 refusal.4

    pub done : a ≡ T.Done → AnswersAll at₀ end₀ old (E.All printed)
    done e =
        let d : Turned at end mid new out text T.Done = rw e at t in
        let z : d.0 - d.0 ≡ 0 = omega arith in
        (p.sheets, (rw z at (further d.0 d.0 d.1)), p.count)
