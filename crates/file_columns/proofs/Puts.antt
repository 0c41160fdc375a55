-- Pieces that are written one after another.
use mathlib.Core.Path.{◌≡◌, sym, ◌∙◌, ap}
use Prim.Native.Nat.{ℕ, suc, ◌+◌, ◌-◌, ◌≤◌, ◌<◌}
use native.Mathlib.Nat.{add-zero, add_assoc}
use native.Mathlib.Omega.{arith}
use mathlib.Core.List.{List, [], ◌∷◌, ◌++◌, append_assoc}
use lib.ListN.{length, take, drop, set, replicate, length-append, length-take, length-drop, length-replicate, take-append-drop}
use lib.Seq.{take-set-le, drop-set-add, drop-cons, take_at, drop_at, drop-drop, length-take-le}
use borrow.Rule.Slice.PartMut.{put_mid}
use Rattle.model.specs.File.{space, justified}
use Rattle.file_columns.specs.Put.{written}

pub written-nil : (out : List ℕ) (at : ℕ) → written out at [] ≡ out
unfolding written
written-nil out at = rw add-zero (take-append-drop at out)

pub written-length : (out : List ℕ) (at : ℕ) (p : List ℕ) → at + length p ≤ length out → length (written out at p) ≡ length out
unfolding written
written-length out at p room = simp (length-append, length-take, length-drop) (omega arith)

-- one more byte after a piece that is yet to be written
pub written_byte : (out : List ℕ) (at : ℕ) (p : List ℕ) (b : ℕ) → at + length p < length out
    → written (set out (at + length p) b) at p ≡ written out at (p ++ (b ∷ []))
unfolding written
written_byte out at p b room =
    let e : drop (at + length p) (set out (at + length p) b) ≡ b ∷ drop (suc (at + length p)) out =
    ap (λ i. drop (at + length p) (set out i b)) (sym (add-zero (at + length p))) ∙ drop-set-add (at + length p) out 0 b
    ∙ rw (drop-cons out (at + length p) 0 room) in
    let l : at + (length p + 1) ≡ suc (at + length p) = omega arith in
    rw (take-set-le at out (at + length p) b (omega arith), e, length-append, l, append_assoc)

-- a piece after a piece
pub written-more : (out : List ℕ) (at : ℕ) (p q : List ℕ) → at + length p ≤ length out
    → written (written out at p) (at + length p) q ≡ written out at (p ++ q)
unfolding written
written-more out at p q room =
    let front : length (take at out ++ p) ≡ at + length p = rw (length-append, length-take-le at out (omega arith)) in
    let whole : take at out ++ (p ++ drop (at + length p) out) ≡ (take at out ++ p) ++ drop (at + length p) out = sym (append_assoc (take at out) p _) in
    let a : take (at + length p) (take at out ++ (p ++ drop (at + length p) out)) ≡ take at out ++ p =
    ap (take (at + length p)) whole ∙ take_at (take at out ++ p) (drop (at + length p) out) (at + length p) front in
    let l : at + length p + length q ≡ at + length (p ++ q) = rw length-append (add_assoc at (length p) (length q)) in
    let b : drop (at + length p + length q) (take at out ++ (p ++ drop (at + length p) out)) ≡ drop (at + length (p ++ q)) out =
    sym (drop-drop (length q) (at + length p) _)
    ∙ ap (drop (length q)) (ap (drop (at + length p)) whole ∙ drop_at (take at out ++ p) (drop (at + length p) out) (at + length p) front)
    ∙ drop-drop (length q) (at + length p) out ∙ ap (λ k. drop k out) l in
    rw (a, b) (simp append_assoc)

-- one byte, alone and after a piece
pub set-one : (out : List ℕ) (k b : ℕ) → k < length out → set out k b ≡ written out k (b ∷ [])
set-one out k b room =
    let e : k + 0 ≡ k = add-zero k in
    sym (written-nil (set out k b) k) ∙ (rw e at (written_byte out k [] b (omega arith)))

pub set_after : (out : List ℕ) (at : ℕ) (p : List ℕ) (b : ℕ) → at + length p < length out
    → set (written out at p) (at + length p) b ≡ written out at (p ++ (b ∷ []))
set_after out at p b room =
    set-one (written out at p) (at + length p) b (rw (written-length out at p (omega arith)) room) ∙ written-more out at p (b ∷ []) (omega arith)

-- what lies in the middle of a list is written anew
mid_written : (out : List ℕ) (at k : ℕ) (p : List ℕ) → length p ≡ k → put_mid at k out p ≡ written out at p
unfolding written
mid_written out at k p l = ap (λ d. take at out ++ (p ++ d)) (drop-drop k at out ∙ ap (λ i. drop (at + i) out) (sym l))

-- spaces, and a text after them
pub text_put : (out : List ℕ) (at width : ℕ) (text spaces : List ℕ) → length text ≤ width → at + width ≤ length out
    → spaces ≡ replicate (at + (width - length text) - at) space
    → put_mid (at + (width - length text)) (at + width - (at + (width - length text))) (put_mid at (at + (width - length text) - at) out spaces) text
    ≡ written out at (justified width text)
text_put out at width text spaces few room e =
    let n : ℕ = width - length text in
    let m : at + n - at ≡ n = omega arith in
    let same : spaces ≡ replicate n space = e ∙ ap (λ k. replicate k space) m in
    let long : length spaces ≡ n = ap length same ∙ length-replicate n space in
    mid_written _ (at + n) (at + width - (at + n)) text (omega arith)
    ∙ ap (λ xs. written xs (at + n) text) (mid_written out at (at + n - at) spaces (long ∙ sym m))
    ∙ (rw long at (written-more out at spaces text (rw long (omega arith))))
    ∙ ap (λ xs. written out at (xs ++ text)) same
