-- Specification, 10: the number of each refusal, and the answer of a call by the number that it is refused with.
use Rattle.std.specs.Prelude.{ℕ, zero, suc, List, [], ◌∷◌, get_or, Result, Ok, Err}
use Rattle.model.specs.declared.refusal.Refusal.{Refusal}
use Rattle.model.specs.declared.refusal.Refusal.TheVariants.{Vehicles, Stops, Table, Lengths, Draws, Locations, Distances, Prices, Smoothing, Limit, Plan, Given, TooLarge, File, Vans, Live, NotLive}

-- the number in the table of refusals
abbrev pub number_of : Refusal → ℕ
number_of Vehicles = 1
number_of Stops = 2
number_of Table = 3
number_of Lengths = 4
number_of Draws = 5
number_of Locations = 6
number_of Distances = 7
number_of Prices = 8
number_of Smoothing = 9
number_of Limit = 10
number_of Plan = 11
number_of Given = 12
number_of TooLarge = 13
number_of File = 14
number_of Vans = 15
number_of Live = 16
number_of NotLive = 17

-- the refusals of the table, in the order of their numbers
abbrev pub refusals : List Refusal
refusals =
    Vehicles ∷ Stops ∷ Table ∷ Lengths ∷ Draws ∷ Locations ∷ Distances ∷ Prices ∷ Smoothing ∷ Limit ∷ Plan ∷ Given ∷ TooLarge ∷ File ∷ Vans ∷ Live ∷ NotLive ∷ []

-- the refusal with k numbers of the table before its own
abbrev pub refusal_after : ℕ → Refusal
refusal_after k = get_or refusals k NotLive

-- refused (by a number above 0): that refusal; accepted: what is answered
abbrev pub answer : {T : Type 0} → ℕ → T → Result T Refusal
answer zero t = Ok t
answer (suc k) t = Err (refusal_after k)

-- the number of an answer, or of what tests come to: 0 where it is accepted
abbrev pub refused : {T : Type 0} → Result T Refusal → ℕ
refused (Ok _) = 0
refused (Err e) = number_of e
