-- Sums over routes, the unplaced stops, and what a move makes of the stops and the routes of a plan: it carries one stop to its place and leaves every other where it
-- was.
use Prim.Native.Nat.{ℕ, zero, suc, ◌+◌, ◌-◌, ◌^◌, ◌<◌, ◌≤◌}
use native.Mathlib.Omega.{arith}
use native.Mathlib.Nat.{add-zero, add-suc, suc-add, pow-le-pow_right, div-eq_of_lt}
use native.Mathlib.Decide.{dec_lt}
use mathlib.Core.Path.{◌≡◌, refl, sym, ap, ◌∙◌}
use mathlib.Core.Logic.{◌≢◌, inl, inr}
use mathlib.Core.Bool.{Bool, true, false, cond, true≢false}
use mathlib.Core.List.{List, [], ◌∷◌, ◌++◌}
use lib.Dec.{eqb, ltb}
use lib.IntN.{sub_ℕ}
use lib.ListN.{length, get_or-map, length-append}
use borrow.Author.Tests.{eqb-true, ltb-true, ltb-false, leb-false}
use Rattle.model.specs.Lists.{concat, up_from, without, change, count, Once}
use Rattle.model.specs.Job.{Job}
use Rattle.model.specs.Plan.{Plan, Route, route_of, vehicle_of, is_placed, placed}
use Rattle.model.specs.StopSet.{bit, contains}
use Rattle.model.specs.Cost.{route_price, over_routes, driving_from, driving_cost}
use Rattle.model.specs.Live.{unplaced_of, put_in, cancelled}
use Rattle.model.specs.Vans.{unplaced, moved, bad_vans}
use Rattle.model.specs.declared.Move.{Move}
use Rattle.model.proofs.Lists.{tested, one_same, one-other, member-count, absent-count, count-append, length-up_from, count-up_from, length-change, get_or-change-other}
use Rattle.model.proofs.Counts.{Below, up_from-below, length-kept}
use Rattle.model.proofs.Cost.{driving-nil, driving-cons, driving_cost-is, cheaper-alike}
use Rattle.model.proofs.Live.{added-at, cancelled-count, cancelled-routes}
use Rattle.model.proofs.Placings.{cancelled-at}

-- ---- sums over routes

-- plans of as many routes, where f gives the same for each of them
pub over-alike : (f : ℕ → Route → ℕ) (k : ℕ) (P Q : Plan) → length P ≡ length Q
    → ((j : ℕ) → j < length P → f (k + j) (route_of P j) ≡ f (k + j) (route_of Q j)) → over_routes f k P ≡ over_routes f k Q
over-alike f k [] [] e h = refl
over-alike f k [] (q ∷ Q) e h = absurd (omega arith)
over-alike f k (p ∷ P) [] e h = absurd (omega arith)
over-alike f k (p ∷ P) (q ∷ Q) e h =
    let first : f k p ≡ f k q = rw add-zero at (h 0 (omega arith)) in
    omega (arith, over-alike f (suc k) P Q (omega arith) (λ j l. rw (suc-add, ← add-suc) (h (suc j) (omega arith))))

-- one route changes
pub over-change : (f : ℕ → Route → ℕ) (k j : ℕ) (g : Route → Route) (P : Plan) → j < length P
    → over_routes f k (change j g P) + f (k + j) (route_of P j) ≡ over_routes f k P + f (k + j) (g (route_of P j))
over-change f k j g [] h = absurd (omega arith)
over-change f k zero g (r ∷ P) h = rw add-zero (omega arith)
over-change f k (suc j) g (r ∷ P) h =
    let ih : over_routes f (suc k) (change j g P) + f (suc k + j) (route_of P j) ≡ over_routes f (suc k) P + f (suc k + j) (g (route_of P j)) =
    over-change f (suc k) j g P (omega arith)
    in
    rw (add-suc, ← suc-add) (omega arith)

-- a sum of two
pub over_add : (f g h : ℕ → Route → ℕ) → ((k : ℕ) (r : Route) → h k r ≡ f k r + g k r) → (k : ℕ) (P : Plan)
    → over_routes h k P ≡ over_routes f k P + over_routes g k P
over_add f g h e k [] = refl
over_add f g h e k (r ∷ P) = omega (arith, e k r, over_add f g h e (suc k) P)

-- what all routes cost
driving-over : (J : Job) (k : ℕ) (P : Plan) → driving_from J k P ≡ over_routes (route_price J) k P
driving-over J k [] = driving-nil J k
driving-over J k (r ∷ P) = omega (arith, driving-cons J k r P, driving-over J (suc k) P)

pub driving_cost-over : (J : Job) (P : Plan) → driving_cost J P ≡ over_routes (route_price J) 0 P
driving_cost-over J P = driving_cost-is J P ∙ driving-over J 0 P

-- ---- the unplaced stops

module _ (P : Plan) (s : ℕ) where
  unplaced_of-none : (ss : List ℕ) → is_placed s P ≡ true → count s (unplaced_of P ss) ≡ 0
  unplaced_of-none [] h = refl
  unplaced_of-none (t ∷ ss) h = go (is_placed t P) refl (unplaced_of-none ss h)
    where
      go : (b : Bool) → is_placed t P ≡ b → count s (unplaced_of P ss) ≡ 0 → count s (cond b (unplaced_of P ss) (t ∷ unplaced_of P ss)) ≡ 0
      go true e ih = ih
      go false e ih = omega (arith, one-other s t (λ q. true≢false (sym h ∙ ap (λ (x : ℕ). is_placed x P) q ∙ e)))

  unplaced_of-kept : (ss : List ℕ) → is_placed s P ≡ false → count s (unplaced_of P ss) ≡ count s ss
  unplaced_of-kept [] h = refl
  unplaced_of-kept (t ∷ ss) h = go (is_placed t P) refl (unplaced_of-kept ss h)
    where
      go : (b : Bool) → is_placed t P ≡ b → count s (unplaced_of P ss) ≡ count s ss → count s (cond b (unplaced_of P ss) (t ∷ unplaced_of P ss)) ≡ count s (t ∷ ss)
      go true e ih = omega (arith, one-other s t (λ q. true≢false (sym e ∙ sym (ap (λ (x : ℕ). is_placed x P) q) ∙ h)))
      go false e ih = omega arith

module _ (n : ℕ) (P : Plan) where
  -- a stop of n is unplaced where it is on no route, and no other is
  pub unplaced-count : (s : ℕ) → count s (unplaced n P) ≡ cond (is_placed s P) 0 (count s (up_from 0 n))
  unfolding unplaced
  unplaced-count s = go (is_placed s P) refl
    where
      go : (b : Bool) → is_placed s P ≡ b → count s (unplaced_of P (up_from 0 n)) ≡ cond b 0 (count s (up_from 0 n))
      go true e = unplaced_of-none P s (up_from 0 n) e
      go false e = unplaced_of-kept P s (up_from 0 n) e

  -- every stop of n is either on a route or unplaced, so the missed part is that of `cost`
  pub unplaced-length : Once (concat P) → Below n (concat P) → placed P + length (unplaced n P) ≡ n
  unplaced-length once below =
      sym (length-append (concat P) (unplaced n P)) ∙ length-kept (concat P ++ unplaced n P) (up_from 0 n) either ∙ length-up_from 0 n
    where
      either : (s : ℕ) → count s (concat P ++ unplaced n P) ≡ count s (up_from 0 n)
      either s = count-append s (concat P) (unplaced n P) ∙ go (is_placed s P) refl (unplaced-count s)
        where
          go : (b : Bool) → is_placed s P ≡ b → count s (unplaced n P) ≡ cond b 0 (count s (up_from 0 n)) → count s (concat P) + count s (unplaced n P) ≡ count s (up_from 0 n)
          go true e u =
              let c : 1 ≤ count s (concat P) = member-count s (concat P) e in
              omega (arith, once s, count-up_from s 0 n (omega arith) (omega (arith, below s c)))
          go false e u = omega (arith, absent-count s (concat P) e)

-- which of the stops are placed is all that counts
unplaced_of-alike : (P Q : Plan) (ss : List ℕ) → ((s : ℕ) → 1 ≤ count s ss → is_placed s P ≡ is_placed s Q) → unplaced_of P ss ≡ unplaced_of Q ss
unplaced_of-alike P Q [] h = refl
unplaced_of-alike P Q (s ∷ ss) h = rw (h s (omega (arith, one_same s s refl)), unplaced_of-alike P Q ss (λ t k. h t (omega arith)))

pub unplaced-alike : (n : ℕ) (P Q : Plan) → ((s : ℕ) → s < n → is_placed s P ≡ is_placed s Q) → unplaced n P ≡ unplaced n Q
unfolding unplaced
unplaced-alike n P Q h = unplaced_of-alike P Q (up_from 0 n) (λ s k. h s (up_from-below n s k))

-- ---- the vans of a set

-- a set that is not refused has no van from v on
pub van-lt : (v vans k : ℕ) → bad_vans v vans ≡ false → contains k vans ≡ true → k < v
unfolding bad_vans
van-lt v vans k h c = elim (dec_lt k v) [ yes l ↦ l | no f ↦ absurd (omega (arith, none f, eqb-true (bit k vans) 1 c)) ]
  where
    none : (k < v → ⊥) → bit k vans ≡ 0
    none f =
        let p : 2 ^ v ≤ 2 ^ k = pow-le-pow_right (omega arith) (omega arith) in
        let small : vans < 2 ^ k = omega (arith, leb-false (2 ^ v) vans h) in
        rw (div-eq_of_lt small)

-- ---- a stop taken out

-- a route of what is left
pub cancelled-route : (s : ℕ) (P : Plan) (k : ℕ) → route_of (cancelled s P) k ≡ without s (route_of P k)
unfolding cancelled
cancelled-route s P k = get_or-map (without s) P k []

-- ---- a move

pub moved_length : (m : Move) (P : Plan) → length (moved m P) ≡ length P
unfolding moved
moved_length m P = length-change m.van (put_in m.place m.stop) (cancelled m.stop P) ∙ cancelled-routes m.stop P

module _ (m : Move) (P : Plan) (once : Once (concat P)) (known : m.van < length P) where
  -- the stop counts one, and every other as before
  pub moved-count : (x : ℕ) → count x (concat (moved m P)) ≡ cond (eqb x m.stop) 1 (count x (concat P))
  unfolding moved
  moved-count x =
      let s : ℕ = m.stop in
      let a = (added-at m.van m.place s (cancelled s P) (rw cancelled-routes known)).stops x in
      a ∙ rw (cancelled-count s P once x) (go (eqb x s))
    where
      go : (t : Bool) → cond t 0 (count x (concat P)) + cond t 1 0 ≡ cond t 1 (count x (concat P))
      go true = refl
      go false = omega arith

  pub moved_other : (x : ℕ) → x ≢ m.stop → count x (concat (moved m P)) ≡ count x (concat P)
  moved_other x h = elim (tested x m.stop) [ inl e ↦ absurd (h e.0) | inr f ↦ rw f.1 at (moved-count x) ]

  pub moved-one : count m.stop (concat (moved m P)) ≡ 1
  moved-one = elim (tested m.stop m.stop) [ inl e ↦ rw e.1 at (moved-count m.stop) | inr f ↦ absurd (f.0 refl) ]

  pub moved-once : Once (concat (moved m P))
  moved-once x = elim (tested x m.stop) [ inl e ↦ rw e.0 (omega (arith, moved-one)) | inr f ↦ omega (arith, moved_other x f.0, once x) ]

  pub moved-below : (n : ℕ) → m.stop < n → Below n (concat P) → Below n (concat (moved m P))
  moved-below n h b x k = elim (tested x m.stop) [ inl e ↦ omega (arith, e.0) | inr f ↦ b x (omega (arith, moved_other x f.0)) ]

-- vans other than the stop's and the target
pub moved-untouched : (m : Move) (P : Plan) → Once (concat P) → (k : ℕ) → k ≢ m.van → k ≢ vehicle_of m.stop P → route_of (moved m P) k ≡ route_of P k
unfolding moved
moved-untouched m P once k h g =
    let s : ℕ = m.stop in
    get_or-change-other m.van k (put_in m.place s) (cancelled s P) [] h
    ∙ rw (cancelled-at s P once) (get_or-change-other (vehicle_of s P) k (without s) P [] g)

-- ---- the change in cost

-- which numbers are taken from each other does not count, only how far apart they are
pub apart-alike : (a b c d : ℕ) → a + d ≡ b + c → sub_ℕ a b ≡ sub_ℕ c d
apart-alike a b c d e = go (ltb a b) refl
  where
    go : (t : Bool) → ltb a b ≡ t → sub_ℕ a b ≡ sub_ℕ c d
    go true h =
        let g : ltb c d ≡ true = sym (cheaper-alike a b c d e) ∙ h in
        let q : b - suc a ≡ d - suc c = omega (arith, ltb-true a b h) in
        rw (h, g, q)
    go false h =
        let g : ltb c d ≡ false = sym (cheaper-alike a b c d e) ∙ h in
        let q : a - b ≡ c - d = omega (arith, ltb-false a b h) in
        rw (h, g, q)
