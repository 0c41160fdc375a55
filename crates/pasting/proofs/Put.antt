-- Laws of `put`.
use Prim.Native.Nat.{ℕ, ◌+◌, ◌-◌, ◌≤◌, zero-le}
use native.Mathlib.Omega.{arith}
use native.Mathlib.Nat.{add_assoc}
use mathlib.Core.Path.{◌≡◌, sym, ap, ◌∙◌}
use mathlib.Core.List.{List, ◌++◌, append_assoc, append-nil}
use lib.ListN.{length, take, drop, replicate, length-append, length-drop, drop_of_length-le}
use lib.Seq.{take_at, drop_at, drop-drop, length-take-le}
use Rattle.model.specs.Plan.{unused}
use Rattle.model.proofs.Lists.{part_end}
use Rattle.pasting.specs.Put.{put, area_of}

-- what is put, with what stands before it
pub put-head : (d s : List ℕ) (at : ℕ) → at ≤ length d → length (take at d ++ s) ≡ at + length s
put-head d s at h = simp (length-append, length-take-le at d h)

pub take_put : (d s : List ℕ) (at : ℕ) → at ≤ length d → take (at + length s) (put d at s) ≡ take at d ++ s
take_put d s at h = rw (← append_assoc) (take_at (take at d ++ s) _ (at + length s) (put-head d s at h))

pub drop-put : (d s : List ℕ) (at : ℕ) → at ≤ length d → drop (at + length s) (put d at s) ≡ drop (at + length s) d
drop-put d s at h = rw (← append_assoc) (drop_at (take at d ++ s) _ (at + length s) (put-head d s at h))

pub length-put : (d s : List ℕ) (at : ℕ) → at + length s ≤ length d → length (put d at s) ≡ length d
length-put d s at h = simp (length-append, length-drop, length-take-le at d (omega arith)) (omega arith)

-- two lists put one after the other are one
pub put-put : (d s t : List ℕ) (at : ℕ) → at ≤ length d → put (put d at s) (at + length s) t ≡ put d at (s ++ t)
put-put d s t at h =
    let e : drop (at + length s + length t) (put d at s) ≡ drop (at + length s + length t) d =
    sym (drop-drop (length t) (at + length s) (put d at s)) ∙ rw (drop-put d s at h) (drop-drop (length t) (at + length s) d)
    in
    rw (take_put d s at h, e) (simp (append_assoc, length-append, ← add_assoc))

-- the same, of two calls: d to d₁ and d₁ to d₂
pub joined : (d d₁ d₂ s t : List ℕ) (at m r : ℕ) → at ≤ length d → m ≡ at + length s → d₁ ≡ put d at s → r ≡ m + length t → d₂ ≡ put d₁ m t
    → (r ≡ at + length s + length t) × (d₂ ≡ put d at (s ++ t))
joined d d₁ d₂ s t at m r h em e₁ er e₂ = (omega arith, rw (e₂, e₁, em) (put-put d s t at h))

-- the same, piece by piece
pub put_on : (d d₁ s t : List ℕ) (m : ℕ) → d₁ ≡ put d 0 s → m ≡ length s → put d₁ m t ≡ put d 0 (s ++ t)
put_on d d₁ s t m e em = let em' : m ≡ 0 + length s = omega arith in rw (e, em') (put-put d s t 0 zero-le)

-- how long a part up to the end is
pub rest-long : (v n : ℕ) (l : List ℕ) → length l ≡ v + n → length (take (length l - v) (drop v l)) ≡ n
rest-long v n l h = rw part_end (omega (arith, length-drop v l))

-- what comes back from a part that was lent up to the end
pub lent-rest : (v : ℕ) (xs ys : List ℕ) → take v xs ++ (ys ++ drop (length xs - v) (drop v xs)) ≡ take v xs ++ ys
lent-rest v xs ys =
    rw (drop_of_length-le (drop v xs) {i = length xs - v} (omega (arith, length-drop v xs)), append-nil)

-- it is as long as what was lent, so the whole is as long as it was
pub lent-long : (v : ℕ) (xs ys : List ℕ) → v ≤ length xs → length ys ≡ length (take (length xs - v) (drop v xs))
    → length (take v xs ++ (ys ++ drop (length xs - v) (drop v xs))) ≡ length xs
lent-long v xs ys h e =
    let l : length ys ≡ length (drop v xs) = rw part_end at e in
    rw lent-rest (omega (arith, length-append (take v xs) ys, length-take-le v xs h, length-drop v xs))

-- ---- the stops area

-- s is written at `at`, and the rest is filled
pub finished : (d d₁ s y : List ℕ) (at m : ℕ) → at + length s ≤ length d → m ≡ at + length s → d₁ ≡ put d at s
    → y ≡ replicate (length (take (length d₁ - m) (drop m d₁))) unused
    → take m d₁ ++ (y ++ drop (length d₁ - m) (drop m d₁)) ≡ area_of (length d) (take at d ++ s)
finished d d₁ s y at m h em e ey =
    let l : length (drop m d₁) ≡ length d - length (take at d ++ s) =
    omega (arith, length-drop m d₁, ap length e, length-put d s at h, put-head d s at (omega arith))
    in
    let ey' : y ≡ replicate (length d - length (take at d ++ s)) unused = rw (part_end, l) at ey in
    let t : take m d₁ ≡ take at d ++ s = rw (e, em) (take_put d s at (omega arith)) in
    rw (lent-rest, t, ey')

-- what was written at the front stands there
pub area-front : (d d₁ s : List ℕ) (m : ℕ) → length s ≤ length d → m ≡ length s → d₁ ≡ put d 0 s → (take m d₁ ≡ s) × (length d₁ ≡ length d)
area-front d d₁ s m h em e =
    let em' : m ≡ 0 + length s = omega arith in
    (rw (e, em') (take_put d s 0 zero-le), rw e (length-put d s 0 (omega arith)))

-- so a last piece comes after it
pub around : (d d₁ d₂ s t : List ℕ) (m : ℕ) → length s ≤ length d → m ≡ length s → d₁ ≡ put d 0 s → d₂ ≡ area_of (length d₁) (take m d₁ ++ t)
    → d₂ ≡ area_of (length d) (s ++ t)
around d d₁ d₂ s t m h em e e₂ = let f = area-front d d₁ s m h em e in e₂ ∙ rw (f.0, f.1)

-- the same of two pieces written before it
pub around-two : (d d₁ d₂ d₃ s s' t : List ℕ) (m m' : ℕ) → length s + length s' ≤ length d → m ≡ length s → m' ≡ m + length s' → d₁ ≡ put d 0 s → d₂ ≡ put d₁ m s'
    → d₃ ≡ area_of (length d₂) (take m' d₂ ++ t) → d₃ ≡ area_of (length d) ((s ++ s') ++ t)
around-two d d₁ d₂ d₃ s s' t m m' h em em' e₁ e₂ e₃ =
    around d d₂ d₃ (s ++ s') t m' (rw length-append h) (rw length-append (omega arith)) (e₂ ∙ put_on d d₁ s s' m e₁ em) e₃
