-- What is written into a list of bytes.
use Rattle.std.specs.Prelude.{ℕ, ◌+◌, ◌^◌, ◌≤◌, ◌<◌, List, length}
use Rattle.pasting.specs.Put.{put}

-- a list with a piece written over it from a position on; shut, so that laws on pieces find it by its name
unfoldable pub written : List ℕ → ℕ → List ℕ → List ℕ
written old at piece = put old at piece

-- a number fits into its columns, and they into the list
pub record Puttable (out : List ℕ) (at width n : ℕ) : Type 0 where
  pub some : 1 ≤ width
  pub few : width ≤ 20
  pub fits : n < 10 ^ width
  pub room : at + width ≤ length out
