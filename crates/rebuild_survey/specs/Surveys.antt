-- What is known of all gaps of a plan in advance.
use Rattle.std.specs.Prelude.{◌≡◌, ℕ, ◌<◌, List, length, get_or, drop}
use Rattle.model.specs.Plan.{route_of}
use Rattle.model.specs.declared.Region.{Region}
use Rattle.distance.specs.declared.legs.Legs.{Legs}
use Rattle.solution.specs.declared.plan.Plan.{Plan}
use Rattle.solution.specs.Held.{routes}
use Rattle.rebuild_words.specs.Gaps.{no_region}
use Rattle.rebuild_survey.specs.declared.Gap.{Gap}
use Rattle.rebuild_survey.specs.Ways.{Measured}

-- what is known of gap q
abbrev pub gap_at : List Gap → ℕ → Gap
gap_at gaps q = get_or gaps q (record { before = 0; after = 0; head = 0; rest = 0 })

-- the places before and after it, the way to the one and the way on from the other
abbrev pub before_of : List Gap → ℕ → ℕ
before_of gaps q = (gap_at gaps q).before

abbrev pub after_of : List Gap → ℕ → ℕ
after_of gaps q = (gap_at gaps q).after

abbrev pub head_of : List Gap → ℕ → ℕ
head_of gaps q = (gap_at gaps q).head

abbrev pub rest_of : List Gap → ℕ → ℕ
rest_of gaps q = (gap_at gaps q).rest

-- what is known of gap q is right
abbrev pub Surveyed-at : Legs → Plan → List Region → List Gap → ℕ → Type 0
Surveyed-at t p regions gaps q =
    let g = get_or regions q no_region in Measured t.table g.vehicle (route_of (routes p) g.vehicle) g.from g.to (gap_at gaps q)

-- and of all gaps
abbrev pub Surveyed : Legs → Plan → List Region → List Gap → Type 0
Surveyed t p regions gaps = (q : ℕ) → q < length regions → Surveyed-at t p regions gaps q

-- what stands after all gaps stays
abbrev pub Unsurveyed : List Region → List Gap → List Gap → Type 0
Unsurveyed regions gaps after = drop (length regions) after ≡ drop (length regions) gaps
