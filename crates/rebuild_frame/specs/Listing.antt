-- Drained stops as they are listed, gap by gap: their list, how many there are, and the word that puts them back.
use Rattle.std.specs.Prelude.{◌≡◌, ℕ, ◌+◌, ◌^◌, ◌≤◌, ◌<◌, List, ◌∷◌, length, get_or}
use Rattle.model.specs.Lists.{up_from}
use Rattle.model.specs.Plan.{Plan}
use Rattle.model.specs.declared.Region.{Region}
use Rattle.model.specs.Region.{drained}
use Rattle.pasting.specs.Put.{put}
use Rattle.rebuild_tables.specs.declared.frame.Frame.{Frame}
use Rattle.rebuild_fillings.specs.Walk.{own}
use Rattle.rebuild_fillings.specs.Rows.{number_from, word_of}

-- the digits of gap q, whose k stops come after c others
abbrev pub gap_digits : ℕ → ℕ → ℕ → List ℕ
gap_digits q c k = (8 + q) ∷ up_from (c + 1) k

-- what is asked to list gap q's stops behind c others, of which w is the word
pub record Listable (stops : List ℕ) (q : ℕ) (part : List ℕ) (c w : ℕ) : Type 0 where
  pub long : length stops ≡ 8
  pub room : c + length part ≤ 7
  pub fits : number_from w (gap_digits q c (length part)) < 16 ^ 10

-- they are listed
pub record GapListed (old : List ℕ) (q : ℕ) (part : List ℕ) (c w : ℕ) (new : List ℕ) (count word : ℕ) : Type 0 where
  pub number : count ≡ c + length part
  pub says : word ≡ number_from w (gap_digits q c (length part))
  pub holds : new ≡ put old (1 + c) part

-- the stops of all these gaps are listed
pub record AllListed (P : Plan) (gs : List Region) (old new : List ℕ) (count word : ℕ) : Type 0 where
  pub number : count ≡ length (drained P gs)
  pub says : word ≡ word_of (own P gs)
  pub holds : new ≡ put old 1 (drained P gs)

-- a stop's number stands in each place for drained stops, also where none is listed
abbrev pub StopsSmall : Frame → Type 0
StopsSmall f = (i : ℕ) → get_or f.listed i 0 < 64
