-- What is read of a sheet before its job file.
use Rattle.std.specs.Prelude.{◌≡◌, ℕ, ◌+◌, ◌*◌, ◌≤◌, Bool, true, false, List, [], ◌∷◌, length, take, replicate, Option, Some, None}
use Rattle.model.specs.File.{line, NoneOver, Stands}
use Rattle.file_lines.specs.Standing.{LineAt, over}
use Rattle.sheet_head.specs.declared.Listed.{Listed}
use Rattle.sheet_head.specs.declared.head.Head.{Head}
use Rattle.sheet_head.specs.Numbered.{number_of_call}
use Rattle.sheet_head.specs.Form.{last_call, has_given, least_given, most_given, has_plan, head_of, ListFor, longest_plan}

-- ---- a line of numbers

-- these numbers stand in a line, at least and at most so many
pub record Listing (bytes : List ℕ) (at least most : ℕ) (ns : List ℕ) : Type 0 where
  pub some : least ≤ length ns
  pub few : length ns ≤ most
  pub small : NoneOver ns
  pub stand : Stands bytes at (line 14 ns)

-- so many numbers stand in the line, if one of at most so many stands there
pub record CountAt (bytes : List ℕ) (at most r : ℕ) : Type 0 where
  pub few : r ≤ most
  pub count : (ns : List ℕ) → Listing bytes at 0 most ns → length ns ≡ r

-- so many numbers stand in the line, which ends there; or none such stands there
abbrev pub ListAt : List ℕ → ℕ → ℕ → ℕ → Option Listed → Type 0
ListAt bytes at least most (Some l) =
    (ns : List ℕ) × Listing bytes at least most ns × (l.count ≡ length ns) × (l.end ≡ at + (14 * length ns + 1))
ListAt bytes at least most None = (ns : List ℕ) → Listing bytes at least most ns → ⊥

-- the same where there is such a line; otherwise nothing is read
abbrev pub ListIf : Bool → List ℕ → ℕ → ℕ → ℕ → Option Listed → Type 0
ListIf true bytes at least most a = ListAt bytes at least most a
ListIf false bytes at least most a = a ≡ Some (record { count = 0; end = at })

-- so many numbers stand in a line, and a list has room for them; for none there may be no line
pub record Fits (bytes : List ℕ) (at count : ℕ) (list : List ℕ) : Type 0 where
  pub there : 1 ≤ count → LineAt bytes at count
  pub room : count ≤ length list

-- they are laid over the front of a list
abbrev pub Laid : List ℕ → ℕ → ℕ → List ℕ → List ℕ → Type 0
Laid bytes at count old new =
    (ns : List ℕ) → length ns ≡ count → NoneOver ns → (1 ≤ count → Stands bytes at (line 14 ns)) → new ≡ over ns old

-- ---- the lines before the job file

-- the number of a call stands there, or 0 is answered where none does
pub record CallAt (bytes : List ℕ) (at r : ℕ) : Type 0 where
  pub last : r ≤ last_call
  pub there : 1 ≤ r → Stands bytes at (line 14 (r ∷ []))
  pub none : r ≡ 0 → (n : ℕ) → 1 ≤ n → n ≤ last_call → Stands bytes at (line 14 (n ∷ [])) → ⊥

-- a call's number and its lines stand there; a plan that has no line is known without it
pub record HeadOf (bytes : List ℕ) (at call : ℕ) (given plan known : List ℕ) : Type 0 where
  pub first : 1 ≤ call
  pub last : call ≤ last_call
  pub stops : ListFor (has_given call) (least_given call) (most_given call) [] given
  pub numbers : ListFor (has_plan call) 0 longest_plan known plan
  pub stand : Stands bytes at (head_of call given plan)

-- the numbers that are given, and those of the plan's line
abbrev pub given_of : Head → List ℕ
given_of k = take k.given_count k.given

abbrev pub plan_of : Head → List ℕ
plan_of k = take k.plan_count k.plan

-- they are read, up to an end
pub record HeadFound (bytes : List ℕ) (at call end : ℕ) (given plan : List ℕ) : Type 0 where
  pub lines : HeadOf bytes at call given plan []
  pub ends : end ≡ at + length (head_of call given plan)

-- an array of so many numbers is these, and zeros after them
abbrev pub ZerosAfter : ℕ → List ℕ → List ℕ → Type 0
ZerosAfter size ns array = array ≡ over ns (replicate size 0)

-- so, in arrays that have zeros after them, or none such stand there
abbrev pub HeadAt : List ℕ → ℕ → Option Head → Type 0
HeadAt bytes at (Some k) =
    HeadFound bytes at (number_of_call k.call) k.end (given_of k) (plan_of k) × ZerosAfter 8 (given_of k) k.given
    × ZerosAfter longest_plan (plan_of k) k.plan
HeadAt bytes at None = (call : ℕ) (given plan known : List ℕ) → HeadOf bytes at call given plan known → ⊥
