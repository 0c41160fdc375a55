-- The sheets that stand one after another in some bytes, up to their end or to where none stands, are known from the bytes.
use mathlib.Core.Path.{◌≡◌, refl, sym, ◌∙◌, ap, subst}
use Prim.Native.Nat.{ℕ}
use native.Mathlib.Omega.{arith}
use mathlib.Core.List.{List, [], ◌∷◌, ◌++◌, append_assoc}
use lib.ListN.{length, length-append}
use lib.Seq.{take-append_seam, take-nil}
use Rattle.model.specs.File.{file_of}
use Rattle.model.proofs.Pieces.{cut-alike}
use Rattle.sheet_head.specs.Form.{head_of}
use Rattle.sheet_head.proofs.Lines.{head-length}
use Rattle.sheet_answer.specs.Sheets.{Sheet, sheet_of, ReadableSheet, SheetAt, sheets_of, ReadableSheets}
use Rattle.sheet_answer.proofs.Found.{same-sheet}

-- none stands at the front
abbrev NoneFirst : List ℕ → Type 0
NoneFirst rest = (to : ℕ) (S : Sheet) → SheetAt rest 0 to S → ⊥

first-stands : (S : Sheet) (rest : List ℕ) → ReadableSheet S → SheetAt (sheet_of S ++ rest) 0 (length (sheet_of S)) S
first-stands S rest r = record { stands = take-append_seam (sheet_of S) rest; end = omega arith; readable = r }

pub none-empty : NoneFirst []
unfolding sheet_of
none-empty to S s =
    let c = S.call in
    let t = head_of c S.given S.plan in
    omega (
      arith,
      ap length (sym (take-nil (length (sheet_of S))) ∙ s.stands),
      length-append t (file_of S.task),
      head-length [] 0 c S.given S.plan s.readable.last,
    )

pub sheets-once : (Ss Zs : List Sheet) (a b : List ℕ) → ReadableSheets Ss → ReadableSheets Zs → NoneFirst a → NoneFirst b → sheets_of Ss ++ a ≡ sheets_of Zs ++ b
    → (Ss ≡ Zs) × (a ≡ b)
sheets-once [] [] a b r q n m e = (refl, e)
sheets-once [] (Z ∷ Zs) a b r q n m e =
    let there : SheetAt a 0 (length (sheet_of Z)) Z =
    subst (λ x. SheetAt x 0 (length (sheet_of Z)) Z) (sym (e ∙ append_assoc (sheet_of Z) (sheets_of Zs) b)) (first-stands Z (sheets_of Zs ++ b) q.0) in
    absurd (n (length (sheet_of Z)) Z there)
sheets-once (S ∷ Ss) [] a b r q n m e =
    let there : SheetAt b 0 (length (sheet_of S)) S =
    subst (λ x. SheetAt x 0 (length (sheet_of S)) S) (sym (append_assoc (sheet_of S) (sheets_of Ss) a) ∙ e) (first-stands S (sheets_of Ss ++ a) r.0) in
    absurd (m (length (sheet_of S)) S there)
sheets-once (S ∷ Ss) (Z ∷ Zs) a b r q n m e =
    let x = sheet_of S ++ (sheets_of Ss ++ a) in
    let f : x ≡ sheet_of Z ++ (sheets_of Zs ++ b) = sym (append_assoc (sheet_of S) (sheets_of Ss) a) ∙ e ∙ append_assoc (sheet_of Z) (sheets_of Zs) b in
    let z : SheetAt x 0 (length (sheet_of Z)) Z = subst (λ y. SheetAt y 0 (length (sheet_of Z)) Z) (sym f) (first-stands Z (sheets_of Zs ++ b) q.0) in
    let same : Z ≡ S = (same-sheet x 0 (length (sheet_of S)) (length (sheet_of Z)) S Z (first-stands S (sheets_of Ss ++ a) r.0) z).1 in
    let rest : sheets_of Ss ++ a ≡ sheets_of Zs ++ b =
    (cut-alike (sheet_of S) (sheets_of Ss ++ a) (sheet_of Z) (sheets_of Zs ++ b) (ap (λ y. length (sheet_of y)) (sym same)) f).1 in
    let more = sheets-once Ss Zs a b r.1 q.1 n m rest in
    (λ i. sym same i ∷ more.0 i, more.1)
