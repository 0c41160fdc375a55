-- A field read from the left: what one more column makes of the number before it.
use mathlib.Core.Path.{◌≡◌, refl, sym, ◌∙◌, ap}
use Prim.Native.Nat.{ℕ, zero, suc, ◌+◌, ◌-◌, ◌*◌, ◌/◌, ◌%◌, ◌^◌, ◌≤◌, ◌<◌}
use native.Mathlib.Nat.{add-zero, add-suc, pow-suc, pow-le-pow_right}
use native.Mathlib.Numerals.{add-one}
use native.Mathlib.Omega.{arith}
use mathlib.Core.List.{List, [], ◌∷◌, ◌++◌, append_assoc, append-nil}
use borrow.Author.Tests.{ltb-true, ltb-false}
use lib.Dec.{ltb}
use Rattle.std.proofs.Common.{Option, Some, None}
use lib.ListN.{length, get_or, take, drop, length-append, length-take, length-drop, replicate-append-replicate}
use lib.Seq.{take-suc, take_all, length-take-le}
use Rattle.std.proofs.lemmas.List.{get_or-take}
use Rattle.model.specs.File.{space, digit, digits, columns, number_in, Stands}
use Rattle.model.proofs.Columns.{tested, columns-length, digits-small, digits_more, number_in-columns, number_in-justified}
use Rattle.model.proofs.Pieces.{cut-alike, stands-within}
use Rattle.file_columns.specs.Field.{lead, last_column, Next, FieldAt}

-- ---- the last column

pub lead-positive : (w n : ℕ) → 0 < n → lead w n ≡ columns w n
unfolding lead
lead-positive w zero l = absurd (omega arith)
lead-positive w (suc n) l = refl

-- a number's columns are those before its last digit, and that digit
pub columns-last : (w n : ℕ) → columns (suc w) n ≡ lead w (n / 10) ++ (digit (n % 10) ∷ [])
unfolding columns lead
columns-last w n =
    tested (ltb n 10)
    (λ b.
    let l : n < 10 = ltb-true n 10 b in
    let a : suc w - 1 ≡ w = omega arith in
    let d : n / 10 ≡ 0 = omega arith in
    let m : n % 10 ≡ n = omega arith in
    rw (digits-small n l, a, d, m))
    λ b.
    let l : 10 ≤ n = ltb-false n 10 b in
    let a : suc w - (length (digits (n / 10)) + 1) ≡ w - length (digits (n / 10)) = omega arith in
    rw (digits_more n l, lead-positive w (n / 10) (omega arith), length-append, a, append_assoc)

pub lead-last : (w n : ℕ) → lead (suc w) n ≡ lead w (n / 10) ++ (last_column n ∷ [])
unfolding lead last_column
lead-last w zero = sym (rw add-one at (replicate-append-replicate w 1 space))
lead-last w (suc n) = columns-last w (suc n)

number_in-lead : (w n : ℕ) → number_in (lead w n) ≡ n
unfolding lead
number_in-lead w zero = rw append-nil at (number_in-justified w [])
number_in-lead w (suc n) = number_in-columns w (suc n)

last-alike : (xs ys : List ℕ) (x y : ℕ) → xs ++ (x ∷ []) ≡ ys ++ (y ∷ []) → (xs ≡ ys) × (x ≡ y)
last-alike xs ys x y e =
    let both = cut-alike xs (x ∷ []) ys (y ∷ []) (omega (arith, simp length-append at (ap length e))) e in
    (both.0, ap (λ l. get_or l 0 0) both.1)

-- ---- one more column

-- a space before the number begins
pub space-column : (value byte : ℕ) → value ≡ 0 → byte ≡ space → Next value byte (Some 0)
unfolding last_column
space-column value byte v b = (omega arith, λ w. rw (v, b) (lead-last w 0))

pub last_column-positive : (n : ℕ) → 0 < n → last_column n ≡ digit (n % 10)
unfolding last_column
last_column-positive zero l = absurd (omega arith)
last_column-positive (suc n) l = refl

-- a digit, after which the number is not 0
pub digit-column : (value byte : ℕ) → digit 0 ≤ byte → byte ≤ digit 9 → 0 < value * 10 + (byte - 48)
    → Next value byte (Some (value * 10 + (byte - 48)))
digit-column value byte low high p =
    let n : ℕ = value * 10 + (byte - 48) in
    let d : n / 10 ≡ value = omega arith in
    let m : last_column n ≡ byte = last_column-positive n p ∙ omega arith in
    (omega arith, λ w. lead-last w n ∙ rw (d, m))

no_last : (value byte next : ℕ) → (byte ≡ space → 0 < value) → (digit 0 ≤ byte → byte ≤ digit 9 → value * 10 + (byte - 48) ≡ 0)
    → next / 10 ≡ value → last_column next ≡ byte → ⊥
unfolding last_column
no_last value byte zero not_space not_digit v b = omega (arith, not_space (sym b))
no_last value byte (suc n) not_space not_digit v b = omega (arith, not_digit (omega arith) (omega arith))

-- any other byte leads to no number
pub no-column : (value byte : ℕ) → (byte ≡ space → 0 < value) → (digit 0 ≤ byte → byte ≤ digit 9 → value * 10 + (byte - 48) ≡ 0)
    → Next value byte None
no-column value byte not_space not_digit w next e =
    let both = last-alike (lead w (next / 10)) (lead w value) (last_column next) byte (sym (lead-last w next) ∙ e) in
    no_last value byte next not_space not_digit
    (sym (number_in-lead w (next / 10)) ∙ ap number_in both.0 ∙ number_in-lead w value) both.1

-- ---- a whole field

-- i columns of the field are read, and hold the value
pub record Read (field : List ℕ) (value i : ℕ) : Type 0 where
  pub within : i ≤ 13
  pub small : value < 10 ^ i
  pub held : take i field ≡ lead i value

pub read_none : (field : List ℕ) → Read field 0 0
unfolding lead
read_none field = record { within = omega arith; small = omega arith; held = refl }

-- so much fits any machine number
pub read_small : {field : List ℕ} {value i : ℕ} → Read field value i → value < 10 ^ 13
read_small {i = i} r = omega (arith, r.small, pow-le-pow_right {n = 10} (omega arith) r.within)

-- where the bytes end there is no room for a field
pub no_room : (bytes rest : List ℕ) (at : ℕ) → rest ≡ take (length bytes - at) (drop at bytes) → length rest < 14 → FieldAt bytes at None
no_room bytes rest at e short n l s =
    let w : length (columns 14 n) ≡ 14 = columns-length 13 n l in
    let r : length rest ≡ length bytes - at = ap length e ∙ rw (length-take, length-drop) (omega arith) in
    omega (arith, r, stands-within bytes at (columns 14 n) (omega arith) s)

pub past_end : (bytes : List ℕ) (at : ℕ) → length bytes < at → FieldAt bytes at None
past_end bytes at short n l s =
    let w : length (columns 14 n) ≡ 14 = columns-length 13 n l in
    omega (arith, stands-within bytes at (columns 14 n) (omega arith) s)

module _ (bytes rest field : List ℕ) (at : ℕ) (of_rest : rest ≡ take (length bytes - at) (drop at bytes)) (of_field : field ≡ take 14 rest) (long : 14 ≤ length rest) where
  whole : length field ≡ 14
  whole = ap length of_field ∙ length-take-le 14 rest long

  -- the field is what stands there
  there : field ≡ take 14 (drop at bytes)
  there = of_field ∙ ap (take 14) (of_rest ∙ take_all (length bytes - at) (drop at bytes) (omega (arith, length-drop at bytes)))

  stands : (n : ℕ) → n < 10 ^ 14 → Stands bytes at (columns 14 n) → field ≡ columns 14 n
  stands n l s = there ∙ (rw (columns-length 13 n l) at s)

  -- one more byte of the field
  take_more : (i : ℕ) → i < 14 → take (suc i) field ≡ take i field ++ (get_or field i 0 ∷ [])
  take_more i b = take-suc field i 0 (omega (arith, whole))

  -- the byte of a loop over all but the last
  front : (i : ℕ) → i < 13 → get_or (take 13 field) i 0 ≡ get_or field i 0
  front i b = get_or-take 13 field i 0 b

  -- one more column that leads to a number
  pub read_more : (value i next : ℕ) (f : Option ℕ) → i < 13 → Read field value i → Next value (get_or (take 13 field) i 0) f → f ≡ Some next
      → Read field next (i + 1)
  read_more value i next f b r n e =
      let more : Next value (get_or field i 0) (Some next) = rw (e, front i b) at n in
      record {
        within = omega arith;
        small = rw add-one (omega (arith, more.0, r.small, pow-suc 10 i));
        held = rw add-one (take_more i (omega arith) ∙ ap (λ bs. bs ++ (get_or field i 0 ∷ [])) r.held ∙ sym (more.1 i));
      }

  -- what the field of a number has before its last column, and there
  field-parts : (n : ℕ) → n < 10 ^ 14 → Stands bytes at (columns 14 n) → (take 13 field ≡ lead 13 (n / 10)) × (get_or field 13 0 ≡ digit (n % 10))
  field-parts n l s =
      last-alike (take 13 field) (lead 13 (n / 10)) (get_or field 13 0) (digit (n % 10))
      (sym (take_more 13 (omega arith)) ∙ take_all 14 field (omega (arith, whole)) ∙ stands n l s ∙ columns-last 13 n)

  -- the first columns of a field hold a number too
  leads : (i r n : ℕ) → i + r ≤ 13 → take (i + r) field ≡ lead (i + r) n → (m : ℕ) × (take i field ≡ lead i m)
  leads i zero n l h = (n, rw add-zero at h)
  leads i (suc r) n l h =
      let k : ℕ = i + r in
      let e : take (suc k) field ≡ lead (suc k) n = rw add-suc at h in
      leads i r (n / 10) (omega arith)
      (last-alike (take k field) (lead k (n / 10)) (get_or field k 0) (last_column n)
      (sym (take_more k (omega arith)) ∙ e ∙ lead-last k n)).0

  -- where a column leads to no number there is none
  pub no_field : (value i : ℕ) (f : Option ℕ) → i < 13 → Read field value i → Next value (get_or (take 13 field) i 0) f → f ≡ None
      → FieldAt bytes at None
  no_field value i f b r bad e n l s =
      let none : Next value (get_or field i 0) None = rw (e, front i b) at bad in
      let all : suc i + (13 - suc i) ≡ 13 = omega arith in
      none_found none (leads (suc i) (13 - suc i) (n / 10) (omega arith) (rw all (field-parts n l s).0))
    where
      none_found : Next value (get_or field i 0) None → (m : ℕ) × (take (suc i) field ≡ lead (suc i) m) → ⊥
      none_found none found =
          none i found.0 (sym found.1 ∙ take_more i (omega arith) ∙ ap (λ bs. bs ++ (get_or field i 0 ∷ [])) r.held)

  -- the last column is a digit
  pub no-last-digit : (digit 0 ≤ get_or field 13 0 → digit 9 < get_or field 13 0) → FieldAt bytes at None
  no-last-digit other n l s =
      let last = (field-parts n l s).1 in
      omega (arith, last, other (omega (arith, last)))

  pub whole-field : (value i : ℕ) → 13 ≤ i → Read field value i → digit 0 ≤ get_or field 13 0 → get_or field 13 0 ≤ digit 9
      → FieldAt bytes at (Some (value * 10 + (get_or field 13 0 - 48)))
  whole-field value i b r low high =
      let n : ℕ = value * 10 + (get_or field 13 0 - 48) in
      let thirteen : i ≡ 13 = omega (arith, r.within) in
      let held : take 13 field ≡ lead 13 value = rw thirteen at r.held in
      let small : value < 10 ^ 13 = read_small r in
      let d : n / 10 ≡ value = omega arith in
      let m : digit (n % 10) ≡ get_or field 13 0 = omega arith in
      let all : field ≡ columns 14 n = sym (take_all 14 field (omega (arith, whole))) ∙ take_more 13 (omega arith) ∙ rw (held, columns-last 13 n, d, m) in
      (omega arith, rw (columns-length 13 n (omega arith)) (sym there ∙ all))
