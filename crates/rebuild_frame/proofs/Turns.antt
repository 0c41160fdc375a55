-- The gaps of a plan are listed one after another.
use Prim.Native.Nat.{ℕ, ◌+◌, ◌^◌, ◌≤◌, ◌<◌}
use native.Mathlib.Omega.{arith}
use native.Mathlib.Numerals.{add-one}
use mathlib.Core.Path.{◌≡◌, refl, sym, ap, ap₂, ◌∙◌}
use mathlib.Core.List.{List, [], ◌∷◌, ◌++◌, map, append-nil}
use lib.ListN.{length, get_or, take, drop, length-append, take-append-drop}
use lib.Seq.{take-suc, take_all, length-take-le}
use Rattle.model.specs.Lists.{up_from, concat, part}
use Rattle.model.specs.Plan.{Plan, Route, route_of}
use Rattle.model.specs.declared.Region.{Region}
use Rattle.model.specs.Region.{drained_from, drained}
use Rattle.model.proofs.Lists.{map-append, concat-append}
use Rattle.solution.specs.declared.plan.Plan as held
use Rattle.solution.specs.Held.{routes}
use Rattle.pasting.specs.Put.{put}
use Rattle.pasting.proofs.Put.{put-put, length-put}
use Rattle.rebuild_words.specs.Gaps.{no_region, Gapped}
use Rattle.rebuild_fillings.specs.Walk.{Filling, own_from, own}
use Rattle.rebuild_fillings.specs.Rows.{number_from, rows_from, word_of}
use Rattle.rebuild_fillings.proofs.Rows.{word_small, number_from-append, rows_split}
use Rattle.rebuild_fillings.proofs.Full.{full-places, full-few, own-full}
use Rattle.rebuild_frame.specs.Listing.{gap_digits, Listable, GapListed, AllListed}

-- ---- one gap more

-- the last gap's digits are the lowest of the word
word_more : (xs : Filling) (here : List ℕ) → word_of (xs ++ here ∷ []) ≡ number_from (word_of xs) ((8 + length xs) ∷ here)
unfolding word_of
word_more xs here =
    let e : 0 + length xs ≡ length xs = omega arith in
    ap (number_from 0) (rows_split 0 xs here)
    ∙ number_from-append 0 (rows_from 0 xs) ((8 + (0 + length xs)) ∷ here)
    ∙ ap (λ a. number_from (number_from 0 (rows_from 0 xs)) ((8 + a) ∷ here)) e

own_from-more : (i : ℕ) (xs : List (List ℕ)) (x : List ℕ) → own_from i (xs ++ x ∷ []) ≡ own_from i xs ++ up_from (i + length (concat xs)) (length x) ∷ []
own_from-more i [] x = let e : i + 0 ≡ i = omega arith in rw e
own_from-more i (y ∷ xs) x =
    let e : i + length y + length (concat xs) ≡ i + length (y ++ concat xs) = omega (arith, length-append y (concat xs)) in
    ap (λ l. up_from i (length y) ∷ l) (own_from-more (i + length y) xs x ∙ ap (λ a. own_from (i + length y) xs ++ up_from a (length x) ∷ []) e)

module _ (P : Plan) (gs : List Region) (d : Region) (q : ℕ) (h : q < length gs) where
  abbrev here : List ℕ
  here = drained_from P (get_or gs q d)

  abbrev before : List ℕ
  before = drained P (take q gs)

  own-more : own P (take (q + 1) gs) ≡ own P (take q gs) ++ up_from (length before + 1) (length here) ∷ []
  own-more =
      let e : 1 + length before ≡ length before + 1 = omega arith in
      ap (λ k. own P (take k gs)) (add-one q)
      ∙ ap (own P) (take-suc gs q d h)
      ∙ ap (own_from 1) (map-append (drained_from P) (take q gs) (get_or gs q d ∷ []))
      ∙ own_from-more 1 (map (drained_from P) (take q gs)) here
      ∙ ap (λ a. own P (take q gs) ++ up_from a (length here) ∷ []) e

  -- the word with gap q's digits
  pub word_gap : number_from (word_of (own P (take q gs))) (gap_digits q (length before) (length here)) ≡ word_of (own P (take (q + 1) gs))
  word_gap =
      let e : length (own P (take q gs)) ≡ q = (own-full P (take q gs)).gaps ∙ length-take-le q gs (omega arith) in
      sym (ap word_of own-more
      ∙ word_more (own P (take q gs)) (up_from (length before + 1) (length here))
      ∙ ap (λ a. number_from (word_of (own P (take q gs))) ((8 + a) ∷ up_from (length before + 1) (length here))) e)

  -- one region's stops more are drained
  drained-more : drained P (take (q + 1) gs) ≡ before ++ here
  drained-more =
      ap (λ k. drained P (take k gs)) (add-one q)
      ∙ ap (drained P) (take-suc gs q d h)
      ∙ ap concat (map-append (drained_from P) (take q gs) (get_or gs q d ∷ []))
      ∙ concat-append (map (drained_from P) (take q gs)) (here ∷ [])
      ∙ ap (λ l. before ++ l) (append-nil here)

  -- how many are drained
  pub drained-size : length (drained P (take (q + 1) gs)) ≡ length before + length here
  drained-size = ap length drained-more ∙ length-append before here

-- no more than by all regions
drained-few : (P : Plan) (gs : List Region) (k : ℕ) → length (drained P (take k gs)) ≤ length (drained P gs)
drained-few P gs k =
    omega (
      arith,
      ap length (ap (drained P) (sym (take-append-drop k gs)) ∙ ap concat (map-append (drained_from P) (take k gs) (drop k gs))
          ∙ concat-append (map (drained_from P) (take k gs)) (map (drained_from P) (drop k gs))),
      length-append (drained P (take k gs)) (drained P (drop k gs)),
    )

-- a word of at most three gaps and seven stops is small
own-small : (P : Plan) (gs : List Region) → length gs ≤ 3 → length (drained P gs) ≤ 7 → word_of (own P gs) < 16 ^ 10
own-small P gs h k =
    let f = own-full P gs in
    word_small (own P gs) (omega (arith, f.gaps)) (omega (arith, full-few (length gs) (length (drained P gs)) (own P gs) f))
    (full-places (length gs) (length (drained P gs)) (own P gs) f k)

-- ---- the turns

pub all_none : (P : Plan) (gs : List Region) (old : List ℕ) → AllListed P (take 0 gs) old old 0 0
unfolding word_of
all_none P gs old = record { number = refl; says = refl; holds = sym (take-append-drop 1 old) }

pub all_listed : (P : Plan) (gs : List Region) (old f : List ℕ) (c w q : ℕ) → AllListed P (take q gs) old f c w → length gs ≤ q → AllListed P gs old f c w
all_listed P gs old f c w q A h = let e : take q gs ≡ gs = take_all q gs h in rw e at A

module _ (plan : held.Plan) (regions : List Region) (G : Gapped plan regions) (few : length (drained (routes plan) regions) ≤ 7)
    (old : List ℕ) (long : length old ≡ 8) (q : ℕ) (f : List ℕ) (c w : ℕ) (A : AllListed (routes plan) (take q regions) old f c w)
    (h : q < length regions) (r : Route) (er : r ≡ route_of (routes plan) (get_or regions q no_region).vehicle) where
  abbrev P : Plan
  P = routes plan

  abbrev gs : List Region
  gs = regions

  abbrev stops : List ℕ
  stops = part (get_or regions q no_region).from (get_or regions q no_region).to r

  stops_same : stops ≡ drained_from P (get_or gs q no_region)
  stops_same = ap (part (get_or regions q no_region).from (get_or regions q no_region).to) er

  size : length (drained P (take (q + 1) gs)) ≡ c + length stops
  size = omega (arith, drained-size P gs no_region q h, A.number, ap length stops_same)

  room : c + length stops ≤ 7
  room = omega (arith, size, drained-few P gs (q + 1))

  word_same : number_from w (gap_digits q c (length stops)) ≡ word_of (own P (take (q + 1) gs))
  word_same = rw (A.says, A.number, stops_same) (word_gap P gs no_region q h)

  pub turn-listable : Listable f q stops c w
  turn-listable = record {
    long = ap length A.holds ∙ length-put old (drained P (take q gs)) 1 (omega (arith, drained-few P gs q)) ∙ long;
    room = room;
    fits = rw word_same (own-small P (take (q + 1) gs) (omega (arith, length-take-le (q + 1) gs (omega arith), G.few)) (omega (arith, drained-few P gs (q + 1))));
  }

  pub turn-listed : (f₁ : List ℕ) (c₁ w₁ : ℕ) → GapListed f q stops c w f₁ c₁ w₁ → AllListed P (take (q + 1) gs) old f₁ c₁ w₁
  turn-listed f₁ c₁ w₁ L = record {
    number = L.number ∙ sym size;
    says = L.says ∙ word_same;
    holds =
        let k : 1 ≤ length old = omega arith in
        L.holds
        ∙ ap₂ (λ a b. put a (1 + b) stops) A.holds A.number
        ∙ put-put old (drained P (take q gs)) stops 1 k
        ∙ ap (put old 1) (ap (λ l. drained P (take q gs) ++ l) stops_same ∙ sym (drained-more P gs no_region q h));
  }
