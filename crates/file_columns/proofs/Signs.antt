-- The digits of a number, also with its sign, are those that std prints.
use Rattle.std.proofs.Common.{◌≡◌, ℕ, suc, ◌+◌, ◌%◌, ◌^◌, ◌≤◌, ◌<◌, List, [], ◌∷◌, ◌++◌, length, ℤ, pos, negsuc, sym, ◌∙◌, ap, arith, decimal, length-append}
use Rattle.std.proofs.lemmas.Fmt.{decimal_by_steps}
use Rattle.std.proofs.lemmas.List.{length-replicate}
use Rattle.std.specs.Fmt.{signed_decimal}
use lib.Signed.{mag}
use Rattle.model.specs.File.{dash, digits, justified, columns, signed_columns}
use Rattle.model.proofs.Columns.{columns-length, digits-small, digits_more}
use Rattle.file_columns.specs.Put.{written}

-- a number that fits into columns has no more digits than they are wide
digits-few : (w n : ℕ) → n < 10 ^ suc w → length (digits n) ≤ suc w
unfolding columns
digits-few w n h = omega (arith, rw (length-append, length-replicate) at (columns-length w n h))

decimal-digits : (n : ℕ) → n < 2 ^ 64 → decimal n ≡ digits n
decimal-digits =
    decimal_by_steps (λ n ds. ds ≡ digits n)
    (λ n l. sym (digits-small n l))
    (λ n ds l e. ap (λ xs. xs ++ ((48 + n % 10) ∷ [])) e ∙ sym (digits_more n l))

-- its text, right-justified, is the number in columns
pub number-put : (old new text : List ℕ) (at w n : ℕ) → n < 2 ^ 64 → text ≡ decimal n → new ≡ written old at (justified w text)
    → new ≡ written old at (columns w n)
unfolding columns
number-put old new text at w n l t e = e ∙ ap (λ xs. written old at (justified w xs)) (t ∙ decimal-digits n l)

-- the same with a sign
pub signed_put : (old new text : List ℕ) (at w : ℕ) (z : ℤ) → mag z < 2 ^ 63 → text ≡ signed_decimal z → new ≡ written old at (justified w text)
    → new ≡ written old at (signed_columns w z)
unfolding signed_columns
signed_put old new text at w (pos n) l t e = e ∙ ap (λ xs. written old at (justified w xs)) (t ∙ decimal-digits n (omega arith))
signed_put old new text at w (negsuc n) l t e =
    e ∙ ap (λ xs. written old at (justified w xs)) (t ∙ ap (λ ds. dash ∷ ds) (decimal-digits (suc n) (omega arith)))

-- every i64 fits into the columns
pub signed-length : (z : ℤ) → mag z < 2 ^ 63 → length (signed_columns 20 z) ≡ 20
unfolding columns signed_columns
signed-length (pos n) h = columns-length 19 n (omega arith)
signed-length (negsuc n) h = rw (length-append, length-replicate) (omega (arith, digits-few 18 (suc n) (omega arith)))
