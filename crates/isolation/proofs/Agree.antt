-- Plans that agree for a caller: what the caller sees, what the caller is refused and pays, and the plans after a move agree too.
use Prim.Native.Nat.{ℕ, suc, ◌+◌, ◌<◌}
use native.Mathlib.Omega.{arith}
use native.Mathlib.Nat.{zero-add, add-zero, add-suc, suc-add}
use native.Mathlib.Decide.{dec_lt}
use mathlib.Core.Path.{◌≡◌, refl, sym, ap, ◌∙◌}
use mathlib.Core.Logic.{◌≢◌, inl, inr}
use mathlib.Core.Bool.{Bool, true, false, cond, ◌&&◌, ◌||◌, not, true≢false}
use mathlib.Core.List.{List, [], ◌∷◌}
use lib.ListN.{length}
use Rattle.model.specs.Lists.{concat, change, member, count, Once}
use Rattle.model.specs.StopSet.{contains, set_of}
use Rattle.model.specs.Job.{Job, stop_count}
use Rattle.model.specs.Plan.{Plan, Route, route_of, vehicle_of, is_placed}
use Rattle.model.specs.Cost.{over_routes, route_price}
use Rattle.model.specs.Live.{put_in, cancelled}
use Rattle.model.specs.Vans.{view, view_from, unplaced, unplaced_set, moved, own_price, own_cost, on_others_van, beyond_end, bad_move}
use Rattle.model.specs.declared.Move.{Move}
use Rattle.model.specs.Studios.{Agree}
use Rattle.model.proofs.Lists.{Tested, tested, member-count, count-member, absent-count, count-absent, get_or-change, get_or-change-other, change-out}
use Rattle.model.proofs.Counts.{Below}
use Rattle.model.proofs.Locate.{vehicle-has, vehicle-only}
use Rattle.model.proofs.Live.{cancelled-routes}
use Rattle.model.proofs.Vans.{over-alike, unplaced-alike, cancelled-route, moved_other, moved-one}

-- a number that stands as often stands in both or in neither
member_alike : (x : ℕ) (xs ys : List ℕ) → count x xs ≡ count x ys → member x xs ≡ member x ys
member_alike x xs ys e = go (member x xs) refl
  where
    go : (b : Bool) → member x xs ≡ b → b ≡ member x ys
    go true m = sym (count-member x ys (omega (arith, member-count x xs m)))
    go false m = sym (count-absent x ys (omega (arith, absent-count x xs m)))

-- the caller's routes are the same
abbrev SameRoutes : ℕ → Plan → Plan → Type 0
SameRoutes vans P Q = (k : ℕ) → contains k vans ≡ true → route_of P k ≡ route_of Q k

-- and stay so where one of them, or another, is changed in both
routes-change : (vans a : ℕ) (f : Route → Route) (P Q : Plan) → length P ≡ length Q → SameRoutes vans P Q → SameRoutes vans (change a f P) (change a f Q)
routes-change vans a f P Q e h k c = go (tested k a) (dec_lt a (length P))
  where
    go : Tested k a → Dec (a < length P) → route_of (change a f P) k ≡ route_of (change a f Q) k
    go (inr q) d = get_or-change-other a k f P [] q.0 ∙ h k c ∙ sym (get_or-change-other a k f Q [] q.0)
    go (inl q) (yes l) = rw q.0 (get_or-change a f P [] l ∙ ap f (h a (rw q.0 at c)) ∙ sym (get_or-change a f Q [] (omega arith)))
    go (inl q) (no l) = rw (change-out a f P (omega arith), change-out a f Q (omega arith)) (h k c)

-- what the caller sees
seen_alike : (vans k : ℕ) (P Q : Plan) → length P ≡ length Q → ((j : ℕ) → contains (k + j) vans ≡ true → route_of P j ≡ route_of Q j)
    → view_from vans k P ≡ view_from vans k Q
unfolding view_from
seen_alike vans k [] [] e h = refl
seen_alike vans k [] (q ∷ Q) e h = absurd (omega arith)
seen_alike vans k (p ∷ P) [] e h = absurd (omega arith)
seen_alike vans k (p ∷ P) (q ∷ Q) e h =
    rw (first (contains k vans) (λ c. h 0 (rw add-zero c)), seen_alike vans (suc k) P Q (omega arith) (λ j c. h (suc j) (rw (add-suc, ← suc-add) c)))
  where
    first : (b : Bool) → (b ≡ true → p ≡ q) → cond b p [] ≡ cond b q []
    first true g = g refl
    first false g = refl

-- a stop on one of the caller's vans is on that van in both
own-van : (vans : ℕ) (P Q : Plan) → SameRoutes vans P Q → Once (concat Q) → (s : ℕ) → is_placed s P ≡ true → contains (vehicle_of s P) vans ≡ true
    → vehicle_of s Q ≡ vehicle_of s P
own-van vans P Q h once s on c = vehicle-only s Q (vehicle_of s P) once (rw (h (vehicle_of s P) c) at (vehicle-has s P on))

-- ---- two plans of as many routes that agree

module _ (n vans : ℕ) (P Q : Plan) (long : length P ≡ length Q) (A : Agree n vans P Q) where
  pub view-alike : view vans P ≡ view vans Q
  unfolding view
  view-alike = seen_alike vans 0 P Q long (λ j c. A.routes j (rw zero-add at c))

  pub set-alike : unplaced_set n P ≡ unplaced_set n Q
  unfolding unplaced_set
  set-alike = ap set_of (unplaced-alike n P Q A.unplaced)

  -- the prices of the caller's routes and the missed part
  pub cost-alike : (J : Job) → stop_count J ≡ n → own_cost J vans P ≡ own_cost J vans Q
  unfolding own_cost
  cost-alike J e =
      let driven : over_routes (own_price J vans) 0 P ≡ over_routes (own_price J vans) 0 Q =
      over-alike (own_price J vans) 0 P Q long (λ j l. rw zero-add (own j (contains j vans) refl))
      in
      let missed : unplaced (stop_count J) P ≡ unplaced (stop_count J) Q = rw e (unplaced-alike n P Q A.unplaced) in
      rw (driven, missed)
    where
      own : (j : ℕ) (b : Bool) → contains j vans ≡ b → cond b (route_price J j (route_of P j)) 0 ≡ cond b (route_price J j (route_of Q j)) 0
      own j true c = ap (route_price J j) (A.routes j c)
      own j false c = refl

  -- a stop taken out of both
  out-alike : (s : ℕ) → SameRoutes vans (cancelled s P) (cancelled s Q)
  out-alike s k c = rw (cancelled-route s P k, cancelled-route s Q k, A.routes k c)

  beyond-alike : (m : Move) → contains m.van vans ≡ true → beyond_end m P ≡ beyond_end m Q
  unfolding beyond_end
  beyond-alike m c = rw (out-alike m.stop m.van c)

  -- ---- in plan form

  module _ (below_p : Below n (concat P)) (below_q : Below n (concat Q)) (once_p : Once (concat P)) (once_q : Once (concat Q)) where
    placed_alike : (s : ℕ) → is_placed s P ≡ is_placed s Q
    placed_alike s = go (dec_lt s n)
      where
        off : (X : Plan) → Below n (concat X) → (s < n → ⊥) → is_placed s X ≡ false
        off X b f = count-absent s (concat X) (elim (dec_lt 0 (count s (concat X))) [ yes k ↦ absurd (f (b s k)) | no g ↦ omega arith ])

        go : Dec (s < n) → is_placed s P ≡ is_placed s Q
        go (yes h) = A.unplaced s h
        go (no f) = off P below_p f ∙ sym (off Q below_q f)

    -- a stop on another's van is on another's in both
    others-alike : (s : ℕ) → on_others_van vans s P ≡ on_others_van vans s Q
    unfolding on_others_van
    others-alike s = rw (placed_alike s) (go (is_placed s Q) refl)
      where
        held : is_placed s Q ≡ true → (a b : Bool) → contains (vehicle_of s P) vans ≡ a → contains (vehicle_of s Q) vans ≡ b → not a ≡ not b
        held on true true p q = refl
        held on true false p q =
            let e : vehicle_of s Q ≡ vehicle_of s P = own-van vans P Q A.routes once_q s (placed_alike s ∙ on) p in
            absurd (true≢false (sym p ∙ sym (ap (λ (k : ℕ). contains k vans) e) ∙ q))
        held on false true p q =
            let e : vehicle_of s P ≡ vehicle_of s Q = own-van vans Q P (λ k c. sym (A.routes k c)) once_p s on q in
            absurd (true≢false (sym q ∙ sym (ap (λ (k : ℕ). contains k vans) e) ∙ p))
        held on false false p q = refl

        go : (b : Bool) → is_placed s Q ≡ b → (b && not (contains (vehicle_of s P) vans)) ≡ (b && not (contains (vehicle_of s Q) vans))
        go true on = held on (contains (vehicle_of s P) vans) (contains (vehicle_of s Q) vans) refl refl
        go false off = refl

    -- what 15 says of a move is the same
    pub bad-alike : (m : Move) → bad_move vans m P ≡ bad_move vans m Q
    unfolding bad_move
    bad-alike m = rw (others-alike m.stop) (go (on_others_van vans m.stop Q) (contains m.van vans) refl)
      where
        go : (o c : Bool) → contains m.van vans ≡ c → (o || (not c || beyond_end m P)) ≡ (o || (not c || beyond_end m Q))
        go true c ec = refl
        go false false ec = refl
        go false true ec = rw (beyond-alike m ec)

    -- and after a move to a van that there is the plans agree again
    pub moved-alike : (m : Move) → m.van < length P → Agree n vans (moved m P) (moved m Q)
    unfolding moved
    moved-alike m known =
        let s : ℕ = m.stop in
        let lengths : length (cancelled s P) ≡ length (cancelled s Q) = cancelled-routes s P ∙ long ∙ sym (cancelled-routes s Q) in
        record {
          routes = routes-change vans m.van (put_in m.place s) (cancelled s P) (cancelled s Q) lengths (out-alike s);
          unplaced = λ t g. still known (omega arith) t g (tested t s);
        }
      where
        there : (X : Plan) → Once (concat X) → m.van < length X → is_placed m.stop (moved m X) ≡ true
        there X once known = count-member m.stop (concat (moved m X)) (omega (arith, moved-one m X once known))

        as-was : (X : Plan) → Once (concat X) → m.van < length X → (t : ℕ) → t ≢ m.stop → is_placed t (moved m X) ≡ is_placed t X
        as-was X once known t f = member_alike t (concat (moved m X)) (concat X) (moved_other m X once known t f)

        still : m.van < length P → m.van < length Q → (t : ℕ) → t < n → Tested t m.stop → is_placed t (moved m P) ≡ is_placed t (moved m Q)
        still p q t g (inl x) = rw x.0 (there P once_p p ∙ sym (there Q once_q q))
        still p q t g (inr x) = as-was P once_p p t x.0 ∙ A.unplaced t g ∙ sym (as-was Q once_q q t x.0)
