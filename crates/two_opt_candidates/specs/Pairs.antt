-- The candidates of a pair of stops on two routes, numbered in the order in which they are tried, and the first of the cheapest by the two routes' prices.
-- Of model's 256 candidates a quarter are different from all before them in the choice of heads and tails: those have the numbers 0 to 63.
-- The binary digits of a number say, highest first: route a reversed, route b reversed, what is added to the cut of a, what is added to the cut of b,
-- heads exchanged, tails exchanged. So 0 is the old plan.
use Rattle.std.specs.Prelude.{ℕ, ◌+◌, ◌/◌, ◌%◌, cond, List, [], ◌∷◌, eqb, ltb}
use Rattle.model.specs.declared.Prices.{Prices}
use Rattle.model.specs.Lists.{position, up_from}
use Rattle.model.specs.Plan.{Plan, Route, route_of}
use Rattle.model.specs.TwoOpt.{turned, exchanged, set_route}
use Rattle.two_opt_candidates.specs.declared.Choice.{Choice}
use Rattle.delivery.specs.Costs.{table_price}

-- what the lower digits say of two rows in which the stops stand at i and j: the cuts, and whether heads and tails stay
abbrev pub choice_of : ℕ → ℕ → ℕ → Choice
choice_of code i j = record { first = i + code / 8 % 2; second = j + code / 4 % 2; heads = eqb (code / 2 % 2) 0; tails = eqb (code % 2) 0 }

-- the two routes of a choice
abbrev pub chosen : Route → Route → Choice → Route × Route
chosen ra rb c = exchanged c.heads c.tails ra c.first rb c.second

-- the two routes of a candidate, made of two rows in which the stops stand at i and j
abbrev pub pair_of : Route → ℕ → Route → ℕ → ℕ → Route × Route
pair_of ra i rb j code = chosen ra rb (choice_of code i j)

-- the two routes of a candidate, made of the routes of stop s and stop t; the stops' positions are read after the reversal
abbrev pub candidate : Route → ℕ → Route → ℕ → ℕ → Route × Route
candidate ra s rb t code =
    let xa = turned (eqb (code / 32 % 2) 1) ra in
    let xb = turned (eqb (code / 16 % 2) 1) rb in
    pair_of xa (position s xa) xb (position t xb) code

-- the plan of a candidate
abbrev pub plan_at : Plan → ℕ → ℕ → ℕ → ℕ → ℕ → Plan
plan_at P a s b t code =
    let x = candidate (route_of P a) s (route_of P b) t code in
    set_route b x.1 (set_route a x.0 P)

-- what two routes of vehicles a and b cost
abbrev pub pair_price : List ℕ → Prices → ℕ → ℕ → Route × Route → ℕ
pair_price table p a b x = table_price table p a x.0 + table_price table p b x.1

-- what a candidate costs that is made of two routes
abbrev pub price_at : List ℕ → Prices → ℕ → Route → ℕ → ℕ → Route → ℕ → ℕ → ℕ
price_at table p a ra s b rb t code = pair_price table p a b (candidate ra s rb t code)

-- The first of the cheapest, as its number and its price: a later one replaces the best so far only where it is strictly cheaper.
abbrev pub least : (ℕ → ℕ) → List ℕ → ℕ × ℕ → ℕ × ℕ
least f [] best = best
least f (c ∷ cs) best = least f cs (cond (ltb (f c) best.1) (c, f c) best)

-- the kept candidate of two routes, and its price
unfoldable pub least_pair : List ℕ → Prices → ℕ → Route → ℕ → ℕ → Route → ℕ → ℕ × ℕ
least_pair table p a ra s b rb t = least (price_at table p a ra s b rb t) (up_from 0 64) (0, price_at table p a ra s b rb t 0)
