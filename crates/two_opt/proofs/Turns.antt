-- The pairs of a list of stops, one after another.
use mathlib.Core.Path.{◌≡◌, refl, sym, ap, ◌∙◌, subst}
use mathlib.Core.Logic.{◌≢◌}
use mathlib.Core.List.{List, [], ◌∷◌, ◌++◌, map}
use Prim.Native.Nat.{ℕ, suc, ◌+◌, ◌-◌, ◌<◌, ◌≤◌, min}
use native.Mathlib.Omega.{arith}
use native.Mathlib.Numerals.{add-one}
use lib.ListN.{length, get_or, take, drop, drop_of_length-le, length-drop}
use lib.Seq.{drop-cons, get_or-drop, take_all}
use Rattle.std.proofs.lemmas.List.{take_min}
use Rattle.model.specs.Lists.{pairs, Once}
use Rattle.model.specs.Job.{Job}
use Rattle.model.specs.Plan.{encode}
use Rattle.model.specs.Plan as form
use Rattle.model.specs.Nearest.{neighbours}
use Rattle.model.specs.TwoOpt.{two_opt, two_opt_all, two_opt_pass}
use Rattle.model.proofs.Lists.{once-place}
use Rattle.model.proofs.Counts.{once-drop}
use Rattle.model.proofs.PlanForm.{lent_length}
use Rattle.model.proofs.Moves.{Moved, Apart, pairs-apart, two_opt-moved, two_opt_all-moved}
use Rattle.distance.specs.declared.tariff.Tariff.{Tariff}
use Rattle.solution.specs.declared.plan.Plan.{Plan}
use Rattle.solution.specs.Held.{numbers_of, routes, Becomes}
use Rattle.solution.proofs.Holding.{holds-routes}
use Rattle.delivery.specs.Held.{IsJobOf}
use Rattle.two_opt.specs.Pairs.{pairs_of}

-- the plan that was written is had back
moved-routes : (p q : Plan) (Q : form.Plan) → Becomes p q Q → Moved (routes p) Q → routes q ≡ Q
moved-routes p q Q h m = holds-routes p.v p.n Q q h (m.routes ∙ lent_length p.v p.n (numbers_of p) p.lent)

-- A plan p on the way from p₀: what the pairs ps₀ make of p₀, the pairs ps, which are left, make of p.
pub record SoFar (t : Tariff) (p₀ : Plan) (ps₀ : List (ℕ × ℕ)) (p : Plan) (ps : List (ℕ × ℕ)) : Type 0 where
  pub vehicles : p.v ≡ p₀.v
  pub stops : p.n ≡ p₀.n
  pub same : (J : Job) → IsJobOf J t p₀ → two_opt_all J (routes p₀) ps₀ ≡ two_opt_all J (routes p) ps

pub none_yet : (t : Tariff) (p : Plan) (ps : List (ℕ × ℕ)) → SoFar t p ps p ps
none_yet t p ps = record { vehicles = refl; stops = refl; same = λ J F. refl }

-- all of some pairs, and then others
all_append : (J : Job) (P : form.Plan) (ps qs : List (ℕ × ℕ)) → two_opt_all J P (ps ++ qs) ≡ two_opt_all J (two_opt_all J P ps) qs
all_append J P [] qs = refl
all_append J P (x ∷ ps) qs = all_append J (two_opt J P x.0 x.1) ps qs

apart-left : (ps qs : List (ℕ × ℕ)) → Apart (ps ++ qs) → Apart ps
apart-left [] qs a = tt
apart-left (x ∷ ps) qs a = (a.0, apart-left ps qs a.1)

-- two stops of a list differ
pub stops-apart : (xs : List ℕ) (i j : ℕ) → Once xs → i < j → j < length xs → get_or xs i 0 ≢ get_or xs j 0
stops-apart xs i j o h g e = let s : i ≡ j = once-place xs i j o (omega arith) g e in omega arith

-- the stops after the i-th
abbrev pub after : List ℕ → ℕ → List ℕ
after xs i = take (length xs - (i + 1)) (drop (i + 1) xs)

pub later : (xs : List ℕ) (i : ℕ) → after xs i ≡ drop (suc i) xs
later xs i = rw add-one (take_all (length xs - suc i) (drop (suc i) xs) (omega (arith, length-drop (suc i) xs)))

pub later-apart : (xs : List ℕ) (i k : ℕ) → Once xs → k < length (after xs i) → get_or xs i 0 ≢ get_or (after xs i) k 0
later-apart xs i k o h =
    let inside : k < length (drop (suc i) xs) = rw (later xs i) at h in
    rw (later xs i, get_or-drop (suc i) xs k 0) (stops-apart xs i (suc i + k) o (omega arith) (omega (arith, inside, length-drop (suc i) xs)))

-- ---- the pairs of one position

module _ (s : ℕ) (xs : List ℕ) where
  -- those with the stops from j on
  abbrev pub pairs_with : ℕ → List (ℕ × ℕ)
  pairs_with j = map (λ y. (s, y)) (drop j xs)

  with_first : (j : ℕ) → j < length xs → pairs_with j ≡ (s, get_or xs j 0) ∷ pairs_with (j + 1)
  with_first j h = rw (add-one, drop-cons xs j 0 h)

  pub with-end : (j : ℕ) → length xs ≤ j → pairs_with j ≡ []
  with-end j h = rw (drop_of_length-le xs {i = j} h)

-- ---- a turn of each loop

module _ {t : Tariff} {p₀ : Plan} {ps₀ : List (ℕ × ℕ)} {p : Plan} where
  -- a job of the first plan is one of the plan on the way
  still : {ps : List (ℕ × ℕ)} → SoFar t p₀ ps₀ p ps → (J : Job) → IsJobOf J t p₀ → IsJobOf J t p
  still so J F = rw (so.vehicles, so.stops) F

  -- one pair more
  pub one_more : (s : ℕ) (stops : List ℕ) (j : ℕ) (q : Plan) → SoFar t p₀ ps₀ p (pairs_with s stops j) → j < length stops → s ≢ get_or stops j 0
      → ((J : Job) → IsJobOf J t p → Becomes p q (two_opt J (routes p) s (get_or stops j 0))) → (q.v ≡ p.v) × (q.n ≡ p.n)
      → SoFar t p₀ ps₀ q (pairs_with s stops (j + 1))
  one_more s stops j q so h ne e z = record { vehicles = z.0 ∙ so.vehicles; stops = z.1 ∙ so.stops; same = same }
    where
      same : (J : Job) → IsJobOf J t p₀ → two_opt_all J (routes p₀) ps₀ ≡ two_opt_all J (routes q) (pairs_with s stops (j + 1))
      same J F =
          let d : routes q ≡ two_opt J (routes p) s (get_or stops j 0) =
          moved-routes p q _ (e J (still so J F)) (two_opt-moved J (routes p) s (get_or stops j 0) ne)
          in
          so.same J F ∙ rw (with_first s stops j h, d)

  -- all pairs of one position more
  pub row_more : (stops : List ℕ) (i : ℕ) (q : Plan) → SoFar t p₀ ps₀ p (pairs (drop i stops)) → Once stops → i < length stops
      → ((J : Job) → IsJobOf J t p → Becomes p q (two_opt_all J (routes p) (pairs_of i stops))) → (q.v ≡ p.v) × (q.n ≡ p.n)
      → SoFar t p₀ ps₀ q (pairs (drop (i + 1) stops))
  row_more stops i q so o h e z = record { vehicles = z.0 ∙ so.vehicles; stops = z.1 ∙ so.stops; same = same }
    where
      same : (J : Job) → IsJobOf J t p₀ → two_opt_all J (routes p₀) ps₀ ≡ two_opt_all J (routes q) (pairs (drop (i + 1) stops))
      same J F =
          let rest : List (ℕ × ℕ) = pairs (drop (suc i) stops) in
          let split : pairs (drop i stops) ≡ pairs_of i stops ++ rest = rw (drop-cons stops i 0 h) in
          let apart : Apart (pairs_of i stops) = apart-left (pairs_of i stops) rest (subst Apart split (pairs-apart (drop i stops) (once-drop stops o i))) in
          let d : routes q ≡ two_opt_all J (routes p) (pairs_of i stops) =
          moved-routes p q _ (e J (still so J F)) (two_opt_all-moved J (routes p) (pairs_of i stops) apart)
          in
          so.same J F ∙ rw (split, all_append, d, add-one)

  -- nothing is left
  pub done : (ps : List (ℕ × ℕ)) → SoFar t p₀ ps₀ p ps → ps ≡ [] → (J : Job) → IsJobOf J t p₀ → Becomes p₀ p (two_opt_all J (routes p₀) ps₀)
  done ps so e J F =
      record {
        vehicles = so.vehicles;
        stops = so.stops;
        form = p.lent.form ∙ ap (λ (m : ℕ). encode m (routes p)) so.stops
            ∙ ap (encode p₀.n) (ap (two_opt_all J (routes p)) (sym e) ∙ sym (so.same J F));
      }

pub none_left : (stops : List ℕ) (i : ℕ) → length stops ≤ i → pairs (drop i stops) ≡ []
none_left stops i h = rw (drop_of_length-le stops {i = i} h)

-- ---- the first ten of S(x)

module _ (t : Tariff) (p : Plan) (near : List ℕ) (q : Plan) where
  -- what the pairs of some stops leave
  abbrev Leaves : List ℕ → Type 0
  Leaves stops = (J : Job) → IsJobOf J t p → Becomes p q (two_opt_all J (routes p) (pairs stops))

  -- what the pass leaves
  abbrev Passes : Type 0
  Passes = (J : Job) → IsJobOf J t p → (x : ℕ) → near ≡ neighbours J x → Becomes p q (two_opt_pass J (routes p) x)

  pub ten : Leaves (take 10 near) → Passes
  unfolding two_opt_pass
  ten e J F x h = rw (← h) (e J F)

  -- of the first m, which are ten or all
  pub first-ten : (m : ℕ) → m ≡ min (length near) 10 → Leaves (take m near) → Leaves (take 10 near)
  first-ten m h e = let k : m ≡ min 10 (length near) = omega arith in rw (k, take_min 10 near) at e
