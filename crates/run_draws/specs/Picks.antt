-- What a round draws for its region pass.
use Rattle.std.specs.Prelude.{◌≡◌, ℕ, ◌+◌, ◌-◌, ◌%◌, ◌≤◌, ◌<◌, cond, List, [], ◌∷◌, eqb, length, get_or, take, drop}
use Rattle.model.specs.Lists.{count, without, Once}
use Rattle.model.specs.Run.{drawn}
use Rattle.nearest_neighbor.specs.Answers.{row_of, Neighbours}

-- the picks of the round that begins at a place in the draws; `S x` are the n stops by distance from x
unfoldable pub picked_from : ℕ → (ℕ → List ℕ) → List ℕ → ℕ → List ℕ
picked_from n S ds p =
    let near = S (drawn ds (p + 2) % n) in
    let first = get_or near (drawn ds (p + 3) % n) 0 in
    let second = get_or (without first near) (drawn ds (p + 4) % (n - 1)) 0 in
    cond (eqb (drawn ds (p + 1) % 2) 1) (first ∷ second ∷ []) (first ∷ [])

-- from which a round can pick: two stops or more, S(x) of each over some legs, a draw, and room for two picks
pub record Pickable (near : List ℕ) (n : ℕ) (draws : List ℕ) (place : ℕ) (picks : List ℕ) : Type 0 where
  pub several : 2 ≤ n
  pub few : n ≤ 64
  pub long : length near ≡ 4096
  pub legs : List ℕ
  pub rows : Neighbours legs n near
  pub some : 0 < length draws
  pub early : place ≤ 1000000000000
  pub room : length picks ≡ 2

-- the first r of `picks` are the round's, one or two different stops, and the others are as they were
pub record Picked (near : List ℕ) (n : ℕ) (draws : List ℕ) (place : ℕ) (old : List ℕ) (r : ℕ) (picks : List ℕ) : Type 0 where
  pub drawn : take r picks ≡ picked_from n (λ x. row_of n x near) draws place
  pub kept : drop r picks ≡ drop r old
  pub long : length (take r picks) ≡ r
  pub some : 1 ≤ r
  pub at_most : r ≤ 2
  pub below : (s : ℕ) → 1 ≤ count s (take r picks) → s < n
  pub once : Once (take r picks)
