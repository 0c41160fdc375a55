-- A route of a plan in the lent form, replaced by one as long.
use mathlib.Core.Path.{◌≡◌, refl, sym, ap, ◌∙◌}
use mathlib.Core.List.{List, [], ◌++◌, append_assoc}
use Prim.Native.Nat.{ℕ, suc, ◌+◌, ◌-◌, ◌<◌}
use native.Mathlib.Omega.{arith}
use lib.ListN.{length, get_or, take, drop, set, replicate, length-append, length-set}
use lib.Seq.{take_at, drop_at, drop-drop, length-take-le}
use Rattle.model.specs.Lists.{sum, part}
use Rattle.model.specs.Plan.{Route, route_of, encode, decode, unused, Lent}
use Rattle.model.specs.TwoOpt.{set_route}
use Rattle.model.proofs.Lists.{sum_more, sum-upto, change-none, length_part}
use Rattle.model.proofs.PlanForm.{route-length}
use Rattle.pasting.specs.Put.{put}
use Rattle.joining.proofs.Routes.{encode_one}

-- what stands between h and z, replaced by as many numbers
pub put-between : (h a z r : List ℕ) (at : ℕ) → length h ≡ at → length r ≡ length a → put (h ++ (a ++ z)) at r ≡ h ++ (r ++ z)
put-between h a z r at e l =
    let f : length (h ++ a) ≡ at + length r = rw length-append (omega arith) in
    rw (take_at h (a ++ z) at e, ← (append_assoc h a z), drop_at (h ++ a) z (at + length r) f)

module _ (v n : ℕ) (xs : List ℕ) (p : Lent v n xs) (k : ℕ) (h : k < v) where
  at : ℕ
  at = v + sum (take k xs)

  -- the lengths and the stops before route k
  before : ℕ → List ℕ
  before m = set (take v xs) k m ++ part v at xs

  -- the stops after it, and the unused places
  after : ℕ → List ℕ
  after m =
      let z = part (v + sum (take (suc k) xs)) (v + sum (take v xs)) xs in
      z ++ replicate (n - (length (part v at xs) + (m + length z))) unused

  around : (r : Route) → encode n (set_route k r (decode v xs)) ≡ before (length r) ++ (r ++ after (length r))
  unfolding at before after
  around r =
      encode_one v n xs p k r h at (v + sum (take (suc k) xs)) (v + sum (take v xs)) refl (omega (arith, sum_more xs k)) refl
      ∙ simp (length-append, append_assoc)

  before-long : (m : ℕ) → length (before m) ≡ at
  unfolding at before
  before-long m =
      let e = sum-upto xs k v h in
      rw (length-append, length-set, length-take-le v xs (omega (arith, p.long)), length_part v (v + sum (take k xs)) xs (omega (arith, p.long, p.fits)))
      (omega arith)

  pub in_place : (r : Route) → length r ≡ length (route_of (decode v xs) k) → put xs (v + sum (take k xs)) r ≡ encode n (set_route k r (decode v xs))
  unfolding at
  in_place r l =
      let old : Route = route_of (decode v xs) k in
      let same : set_route k old (decode v xs) ≡ decode v xs = change-none k (λ _. old) (decode v xs) [] refl in
      let e : xs ≡ before (length old) ++ (old ++ after (length old)) = p.form ∙ sym (ap (encode n) same) ∙ around old in
      ap (λ (l : List ℕ). put l at r) e ∙ put-between (before (length old)) old (after (length old)) r at (before-long (length old)) l
      ∙ rw (← l) (sym (around r))

  -- the same, of what a part of the list that was lent comes back as
  pub lent_back : (start end : ℕ) (r : Route) → start ≡ v + sum (take k xs) → end ≡ start + get_or xs k 0
      → length r ≡ length (route_of (decode v xs) k)
      → take start xs ++ (r ++ drop (end - start) (drop start xs)) ≡ encode n (set_route k r (decode v xs))
  lent_back start end r es ee l =
      let m : start + (end - start) ≡ start + length r = omega (arith, route-length v n xs p.long p.fits k h) in
      rw (drop-drop, m, es) (in_place r l)
