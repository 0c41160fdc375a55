-- Small runs, computed from the definitions.
use mathlib.Core.Path.{◌≡◌, refl}
use mathlib.Core.Bool.{true, false}
use mathlib.Core.List.{List, ◌∷◌}
use Prim.Native.Nat.{ℕ}
use lib.ListN.{replicate}
use lib.Ieee.{add, sub, mul, div, eq, le, of_int}
use Rattle.model.specs.Whole.{whole}
use Rattle.model.specs.Settle.{no_averages, averaged, settles}
use Rattle.settle.specs.Costs.{improving, after, Goes}
use Rattle.settle.specs.Rounds.{both}

-- a gain of 4 counts in both averages, and an idle round only in δ
improves : averaged 4 (both (whole 8) (whole 8)) 14 10 ≡ both (whole 7) (whole 7)
unfolding averaged add sub mul div eq of_int
improves = refl

idles : averaged 4 (both (whole 8) (whole 8)) 10 10 ≡ both (whole 6) (whole 8)
unfolding averaged add sub mul div eq of_int
idles = refl

-- ten rounds are the fewest
nine : settles 9 no_averages ≡ false
unfolding settles
nine = refl

ten : settles 10 no_averages ≡ true
unfolding settles mul le
ten = refl

-- δ may be as large as the hundredth of u, and no larger
level : settles 10 (both (whole 1) (whole 100)) ≡ true
unfolding settles mul le of_int
level = refl

above : settles 10 (both (whole 2) (whole 100)) ≡ false
unfolding settles mul le of_int
above = refl

-- A run with c = 3 that improves in its first round alone: the rule holds after 13 rounds, and not before.
abbrev once : List ℕ
once = 6 ∷ replicate 12 6

counted : improving 7 once ≡ 1
counted = refl

goes_on : Goes 3 0 no_averages 7 once
unfolding averaged settles add sub mul div eq le of_int
goes_on = (refl, (refl, (refl, (refl, (refl, (refl, (refl, (refl, (refl, (refl, (refl, (refl, (refl, tt)))))))))))))

stops : settles 13 (after 3 no_averages 7 once) ≡ true
unfolding averaged settles add sub mul div eq le of_int
stops = refl
