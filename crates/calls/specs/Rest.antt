-- What is left to answer in a buffer, and what was answered.
use Rattle.std.specs.Prelude.{◌≡◌, ℕ, ◌-◌, ◌≤◌, ◌<◌, List, [], ◌++◌, length, take, Option, Some, None}
use Rattle.model.specs.Lists.{part}
use Rattle.model.specs.File.{printed_refusal}
use Rattle.sheet_answer.specs.Sheets.{Sheet, SheetAt, longest_sheet, sheets_of, ReadableSheets, printed_sheets}
use Rattle.sheet_answer.specs.Running.{Answered, NoSheet}
use Rattle.calls.specs.declared.Outcome.{Outcome}
use Rattle.calls.specs.declared.Outcome.TheVariants as T
use Rattle.calls.specs.declared.Ended.{Ended}
use Rattle.calls.specs.declared.Ended.TheVariants as E

-- a buffer that is long enough for every sheet, and where the bytes that are left begin and end in it
pub record Ready (at end : ℕ) (bytes : List ℕ) : Type 0 where
  pub order : at ≤ end
  pub within : end ≤ length bytes
  pub long : longest_sheet ≤ length bytes

-- The bytes that were left are still there, and others may stand after them: none are read where the buffer is not full. A buffer that is full to its
-- end holds as many bytes as a sheet may have, so no sheet is cut off by the buffer.
pub record Still (at end : ℕ) (old new : List ℕ) (from to : ℕ) : Type 0 where
  pub order : from ≤ to
  pub within : to ≤ length old
  pub more : List ℕ
  pub same : part from to new ≡ part at end old ++ more
  pub unread : end < length old → (new ≡ old) × (from ≡ at) × (to ≡ end) × (more ≡ [])
  pub uncut : to ≡ length old → longest_sheet ≤ to - from

abbrev pub Keeps : ℕ → ℕ → List ℕ → List ℕ → Option (ℕ × ℕ) → Type 0
Keeps at end old new (Some p) = Still at end old new p.0 p.1
Keeps at end old new None = Unit {0}

-- One turn. The one sheet that stands where the bytes that are left begin is answered, and what is left begins where it ends; where none stands there, 14 is
-- answered; or no bytes are left.
abbrev pub Turned : ℕ → ℕ → List ℕ → List ℕ → List ℕ → List ℕ → Outcome → Type 0
Turned at end old new out printed (T.Answered next to r) =
    (from : ℕ) × Still at end old new from to × Answered (take to new) from next out printed r
Turned at end old new out printed (T.Refused r) =
    (from : ℕ) × (to : ℕ) × Still at end old new from to × (from < to) × NoSheet (take to new) from out printed r
Turned at end old new out printed T.Done = (from : ℕ) × Still at end old new from from × (printed ≡ out)
Turned at end old new out printed T.Failed = printed ≡ out

-- The bytes that were left, with what was read after them, are these sheets one after another, and a rest.
pub record Input (at end : ℕ) (bytes : List ℕ) (sheets : List Sheet) (rest : List ℕ) : Type 0 where
  pub readable : ReadableSheets sheets
  pub more : List ℕ
  pub text : part at end bytes ++ more ≡ sheets_of sheets ++ rest
  pub unread : end < length bytes → more ≡ []

-- How many bytes are printed: the answers of all sheets up to the end; or those of the sheets before the first place where none stands, and refusal 14.
abbrev pub AnswersAll : ℕ → ℕ → List ℕ → Ended → Type 0
AnswersAll at end bytes (E.All n) = (Ss : List Sheet) × Input at end bytes Ss [] × (n ≡ length (printed_sheets Ss))
AnswersAll at end bytes (E.Refused n) =
    (Ss : List Sheet) × (rest : List ℕ) × Input at end bytes Ss rest × (1 ≤ length rest) × ((to : ℕ) (S : Sheet) → SheetAt rest 0 to S → ⊥)
    × (n ≡ length (printed_sheets Ss ++ printed_refusal 14))
AnswersAll at end bytes E.Failed = Unit {0}
