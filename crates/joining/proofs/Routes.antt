-- Plans with routes replaced, in the lent form.
use Prim.Native.Nat.{ℕ, zero, suc, ◌+◌, ◌-◌, ◌<◌, ◌≤◌, zero-le}
use native.Mathlib.Omega.{arith}
use native.Mathlib.Nat.{add-zero, sub-zero, zero-sub, suc-sub-suc}
use mathlib.Core.Path.{◌≡◌, refl, sym, ◌∙◌}
use mathlib.Core.List.{List, [], ◌∷◌, ◌++◌, append_assoc, map}
use lib.ListN.{length, get_or, take, drop, set, length-drop, length-set}
use lib.Seq.{take-nil, drop-drop, set_split, take-set-lt, drop-set-lt, take-take, length-take-le}
use Rattle.model.specs.Lists.{sum, concat, part}
use Rattle.model.specs.Plan.{Plan, Route, encode, cut, decode, placed, Lent}
use Rattle.model.specs.TwoOpt.{set_route}
use Rattle.model.proofs.Counts.{placed-routes}
use Rattle.pasting.proofs.Put.{lent-rest, area-front}
use Rattle.model.proofs.Lists.{sum_more, sum-upto, sum-append, take_part, part_end, length_part, concat-append, change-to, map-change}
use Rattle.pasting.specs.Put.{put, area_of}
use Rattle.model.proofs.PlanForm.{concat-cut, lengths-cut, lent_length, placed-decode, route-length}

-- ---- some of the routes

take-cut : (m : ℕ) (ks xs : List ℕ) → take m (cut ks xs) ≡ cut (take m ks) xs
unfolding cut
take-cut zero ks xs = refl
take-cut (suc m) [] xs = refl
take-cut (suc m) (k ∷ ks) xs = rw (take-cut m ks (drop k xs))

drop-cut : (m : ℕ) (ks xs : List ℕ) → drop m (cut ks xs) ≡ cut (drop m ks) (drop (sum (take m ks)) xs)
unfolding cut
drop-cut zero ks xs = refl
drop-cut (suc m) [] xs = refl
drop-cut (suc m) (k ∷ ks) xs = rw (drop-cut m ks (drop k xs), drop-drop)

part-sum : (a b : ℕ) (ks : List ℕ) → a ≤ b → sum (take a ks) + sum (part a b ks) ≡ sum (take b ks)
part-sum a b ks h = sym (sum-append (take a ks) (part a b ks)) ∙ rw (take_part a b ks h)

-- the stops of the routes from a up to b stand one after another
pub routes-part : (v a b : ℕ) (xs : List ℕ) → a ≤ b → b ≤ v
    → part (v + sum (take a xs)) (v + sum (take b xs)) xs ≡ concat (part a b (decode v xs))
unfolding decode
routes-part v a b xs h g =
    let ta : take a (take v xs) ≡ take a xs = take-take a v xs (omega arith) in
    let tb : take b (take v xs) ≡ take b xs = take-take b v xs g in
    let p : sum (take a xs) + sum (part a b (take v xs)) ≡ sum (take b xs) = rw (ta, tb) at (part-sum a b (take v xs) h) in
    let e : v + sum (take b xs) - (v + sum (take a xs)) ≡ sum (part a b (take v xs)) = omega arith in
    rw (e, drop-cut, take-cut, concat-cut, ta, drop-drop)

-- ---- the stops of a plan with routes replaced

-- a part up to the end
tail-part : (k : ℕ) (P : Plan) → part k (length P) P ≡ drop k P
tail-part k P = part_end k P

drop-take : (m k : ℕ) (P : Plan) → drop m (take k P) ≡ part m k P
drop-take zero k P = rw sub-zero
drop-take (suc m) zero P = rw zero-sub
drop-take (suc m) (suc k) [] = sym (take-nil (suc k - suc m))
drop-take (suc m) (suc k) (x ∷ P) = drop-take m k P ∙ rw suc-sub-suc

pub concat-one : (k : ℕ) (r : Route) (P : Plan) → k < length P
    → concat (set_route k r P) ≡ (concat (part 0 k P) ++ r) ++ concat (part (suc k) (length P) P)
concat-one k r P h =
    rw (change-to k r P, set_split P k r h, concat-append (take k P), tail-part, sub-zero, append_assoc)

pub concat-two : (a b : ℕ) (q r : Route) (P : Plan) → a < b → b < length P
    → concat (set_route b r (set_route a q P))
    ≡ ((concat (part 0 a P) ++ q) ++ (concat (part (suc a) b P) ++ r)) ++ concat (part (suc b) (length P) P)
concat-two a b q r P h g =
    let g' : b < length (set P a q) = rw length-set g in
    let la : a < length (take b P) = rw (length-take-le b P (omega arith)) h in
    let e : set_route b r (set_route a q P) ≡ (take a P ++ (q ∷ part (suc a) b P)) ++ (r ∷ drop (suc b) P) =
    rw (
      change-to a q P,
      change-to b r (set P a q),
      set_split (set P a q) b r g',
      take-set-lt b P a q h,
      drop-set-lt (suc b) P a q (omega arith),
      set_split (take b P) a q la,
      take-take a b P (omega arith),
      drop-take,
    )
    in
    rw (e, tail-part, sub-zero) (simp (concat-append, append_assoc))

-- ---- the lengths

lengths-set : (k : ℕ) (r : Route) (P : Plan) → map length (set_route k r P) ≡ set (map length P) k (length r)
lengths-set k r P = map-change length k (λ _. r) (λ _. length r) P (λ _. refl) ∙ change-to k (length r) (map length P)

-- ---- the lent form

module _ (v n : ℕ) (xs : List ℕ) (p : Lent v n xs) where
  lengths-decode : map length (decode v xs) ≡ take v xs
  unfolding decode
  lengths-decode = lengths-cut (take v xs) (drop v xs) (omega (arith, length-drop v xs, p.long, p.fits))

  -- the parts of the lent form that the code copies
  upto : (k : ℕ) → k ≤ v → part v (v + sum (take k xs)) xs ≡ concat (part 0 k (decode v xs))
  upto k h = rw add-zero at (routes-part v 0 k xs zero-le h)

  from : (k : ℕ) → k ≤ v → part (v + sum (take k xs)) (v + sum (take v xs)) xs ≡ concat (part k (length (decode v xs)) (decode v xs))
  from k h = rw (lent_length v n xs p) (routes-part v k v xs h (omega arith))

  -- a route's end, as the code computes it
  ending : (k start end : ℕ) → start ≡ v + sum (take k xs) → end ≡ start + get_or xs k 0 → end ≡ v + sum (take (suc k) xs)
  ending k start end es ee = omega (arith, sum_more xs k)

  -- the old lengths, copied
  copied : (d d₁ : List ℕ) → length d ≡ v + n → d₁ ≡ put d 0 (take v xs) → take v d₁ ≡ take v xs
  copied d d₁ h e =
      let l : length (take v xs) ≡ v = length-take-le v xs (omega (arith, p.long)) in
      (area-front d d₁ (take v xs) v (omega arith) (sym l) e).0

  -- the lengths and the stops area are the lent form
  lent-form : (P : Plan) (d y : List ℕ) → take v d ≡ map length P → y ≡ area_of n (concat P)
      → take v d ++ (y ++ drop (length d - v) (drop v d)) ≡ encode n P
  unfolding encode
  lent-form P d y e ey = rw (lent-rest, e, ey)

  -- ---- one route replaced

  module _ (k : ℕ) (r : Route) (h : k < v) where
    in-routes : k < length (decode v xs)
    in-routes = omega (arith, lent_length v n xs p)

    pub stops-one : (start end used : ℕ) → start ≡ v + sum (take k xs) → end ≡ start + get_or xs k 0 → used ≡ v + sum (take v xs)
        → (part v start xs ++ r) ++ part end used xs ≡ concat (set_route k r (decode v xs))
    stops-one start end used es ee eu =
        rw (ending k start end es ee, es, eu, upto k (omega arith), from (suc k) h, ← (concat-one k r (decode v xs) in-routes))

    -- the lent form with one route replaced, in the parts of the old one
    pub encode_one : (start end used : ℕ) → start ≡ v + sum (take k xs) → end ≡ start + get_or xs k 0 → used ≡ v + sum (take v xs)
        → encode n (set_route k r (decode v xs)) ≡ set (take v xs) k (length r) ++ area_of n ((part v start xs ++ r) ++ part end used xs)
    unfolding encode
    encode_one start end used es ee eu = rw (stops-one start end used es ee eu, lengths-set k r (decode v xs), lengths-decode)

  -- ---- two routes replaced

  module _ (a b : ℕ) (q r : Route) (h : a < b) (g : b < v) where
    both-in-routes : b < length (decode v xs)
    both-in-routes = omega (arith, lent_length v n xs p)

    pub stops-two : (sa ea sb eb used : ℕ) → sa ≡ v + sum (take a xs) → ea ≡ sa + get_or xs a 0 → sb ≡ v + sum (take b xs) → eb ≡ sb + get_or xs b 0 → used ≡ v + sum (take v xs)
        → ((part v sa xs ++ q) ++ (part ea sb xs ++ r)) ++ part eb used xs ≡ concat (set_route b r (set_route a q (decode v xs)))
    stops-two sa ea sb eb used esa eea esb eeb eu =
        rw (
          ending a sa ea esa eea,
          ending b sb eb esb eeb,
          esa,
          esb,
          eu,
          upto a (omega arith),
          routes-part v (suc a) b xs h (omega arith),
          from (suc b) g,
          ← (concat-two a b q r (decode v xs) h both-in-routes),
        )

    pub form-two : (d d₁ y : List ℕ) → length d ≡ v + n → d₁ ≡ put d 0 (take v xs) → y ≡ area_of n (concat (set_route b r (set_route a q (decode v xs))))
        → let d₂ = set (set d₁ a (length q)) b (length r) in
        take v d₂ ++ (y ++ drop (length d₂ - v) (drop v d₂)) ≡ encode n (set_route b r (set_route a q (decode v xs)))
    form-two d d₁ y hd e ey =
        lent-form (set_route b r (set_route a q (decode v xs))) (set (set d₁ a (length q)) b (length r)) y
        (rw (
          take-set-lt v (set d₁ a (length q)) b (length r) g,
          take-set-lt v d₁ a (length q) (omega arith),
          copied d d₁ hd e,
          lengths-set b r (set_route a q (decode v xs)),
          lengths-set a q (decode v xs),
          lengths-decode,
        )) ey

    pub record RoomTwo : Type 0 where
      pub first : sum (take a xs) + get_or xs a 0 ≤ sum (take b xs)
      pub second : sum (take b xs) + get_or xs b 0 ≤ sum (take v xs)
      pub fits : sum (take v xs) + (length q + length r) ≤ n + (get_or xs a 0 + get_or xs b 0)

    pub room-two : placed (set_route b r (set_route a q (decode v xs))) ≤ n → RoomTwo
    room-two f =
        let la = route-length v n xs p.long p.fits a (omega arith) in
        let lb = route-length v n xs p.long p.fits b g in
        let k = both-in-routes in
        record {
          first = sum-upto xs a b h;
          second = sum-upto xs b v g;
          fits = omega (arith, placed-routes a b q r (decode v xs) (omega arith) k (omega arith), la, lb, placed-decode v n xs p.long p.fits);
        }

    pub enough-two : (sa ea sb eb used : ℕ) → RoomTwo → sa ≡ v + sum (take a xs) → ea ≡ sa + get_or xs a 0 → sb ≡ v + sum (take b xs) → eb ≡ sb + get_or xs b 0
        → used ≡ v + sum (take v xs) → length (part v sa xs) + length q + length (part ea sb xs) + length r + length (part eb used xs) ≤ n
    enough-two sa ea sb eb used room esa eea esb eeb eu =
        let l = p.long in
        let f = p.fits in
        let l₁ : length (part v sa xs) ≡ sa - v = length_part v sa xs (omega arith) in
        let l₂ : length (part ea sb xs) ≡ sb - ea = length_part ea sb xs (omega arith) in
        let l₃ : length (part eb used xs) ≡ used - eb = length_part eb used xs (omega arith) in
        rw (l₁, l₂, l₃) (omega arith)
