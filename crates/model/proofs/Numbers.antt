-- The numbers of refusals: each refusal has its own, above 0, and a call is refused with one of the table.
use Rattle.std.specs.Prelude.{◌≡◌, ℕ, Bool, true, false, cond, Err, refl}
use Rattle.model.specs.declared.refusal.Refusal.{Refusal}
use Rattle.model.specs.declared.refusal.Refusal.TheVariants.{Vehicles, Stops, Table, Lengths, Draws, Locations, Distances, Prices, Smoothing, Limit, Plan, Given, TooLarge, File, Vans, Live, NotLive}
use Rattle.model.specs.Numbers.{number_of, answer, refused}
use Rattle.model.specs.Refusals.{Arguments, Call, refusal}

-- a refusal answers what its number does
pub err-answer : {T : Type 0} (e : Refusal) (t : T) → Err e ≡ answer (number_of e) t
err-answer Vehicles t = refl
err-answer Stops t = refl
err-answer Table t = refl
err-answer Lengths t = refl
err-answer Draws t = refl
err-answer Locations t = refl
err-answer Distances t = refl
err-answer Prices t = refl
err-answer Smoothing t = refl
err-answer Limit t = refl
err-answer Plan t = refl
err-answer Given t = refl
err-answer TooLarge t = refl
err-answer File t = refl
err-answer Vans t = refl
err-answer Live t = refl
err-answer NotLive t = refl

-- and no refusal has the number 0
pub number-some : (e : Refusal) → number_of e ≡ 0 → ⊥
number-some Vehicles h = cc
number-some Stops h = cc
number-some Table h = cc
number-some Lengths h = cc
number-some Draws h = cc
number-some Locations h = cc
number-some Distances h = cc
number-some Prices h = cc
number-some Smoothing h = cc
number-some Limit h = cc
number-some Plan h = cc
number-some Given h = cc
number-some TooLarge h = cc
number-some File h = cc
number-some Vans h = cc
number-some Live h = cc
number-some NotLive h = cc

-- 0, or the number of a refusal
abbrev pub IsNumber : ℕ → Type 0
IsNumber k = refused {T = Unit {0}} (answer k tt) ≡ k

either : (b : Bool) (k r : ℕ) → IsNumber k → IsNumber r → IsNumber (cond b k r)
either true k r p q = p
either false k r p q = q

-- what a call is refused with
pub refusal-number : (c : Call) (A : Arguments) → IsNumber (refusal c A)
unfolding refusal
refusal-number c A =
    either _ 1 _ refl (either _ 2 _ refl (either _ 3 _ refl (either _ 4 _ refl (either _ 5 _ refl (either _ 6 _ refl
    (either _ 7 _ refl (either _ 8 _ refl (either _ 9 _ refl (either _ 10 _ refl (either _ 11 _ refl (either _ 12 _ refl
    (either _ 15 _ refl (either _ 16 _ refl (either _ 17 _ refl (either _ 13 0 refl refl)))))))))))))))
