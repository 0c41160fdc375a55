-- What is printed of a cost, of the walk of a rebuild, of what stands after a change, of a number of 64 bits, and of a change in cost.
use Rattle.std.specs.Prelude.{ℕ, List, [], ◌∷◌, ◌++◌, ℤ, Float}
use Rattle.model.specs.declared.Walk.{Walk}
use Rattle.model.specs.declared.Standing.{Standing}
use Rattle.model.specs.Whole.{amount}
use Rattle.model.specs.File.{line_feed, line, signed_columns}

-- the line of a cost
unfoldable pub printed_cost : Float → List ℕ
printed_cost c = line 20 (amount c ∷ [])

-- the line of a rebuild: the cost, the fillings begun, the arrangements completed
unfoldable pub printed_walk : Walk → List ℕ
printed_walk w = line 20 (amount w.cost ∷ w.begun ∷ w.completed ∷ [])

-- the line of a set of live stops and a cost
unfoldable pub printed_standing : Standing → List ℕ
printed_standing t = line 20 (t.live ∷ amount t.cost ∷ [])

-- the line of a number of 64 bits: a set of stops, or a rise in cost
unfoldable pub printed_number : ℕ → List ℕ
printed_number n = line 20 (n ∷ [])

-- the line of a change in cost, with its sign
unfoldable pub printed_change : ℤ → List ℕ
printed_change z = signed_columns 20 z ++ (line_feed ∷ [])
