-- A run that goes on until the rule holds: what is known of the averages after each round, and how many rounds there can be.
use mathlib.Core.Path.{◌≡◌, refl, sym, subst}
use mathlib.Core.Logic.{◌⊎◌, inl, inr}
use mathlib.Core.Bool.{Bool, true, false, cond}
use Prim.Native.Nat.{ℕ, zero, suc, ◌+◌, ◌-◌, ◌*◌, ◌^◌, ◌≤◌, ◌<◌, zero-le}
use native.Mathlib.Nat.{add-zero, le_trans, le_of_eq, le_refl, lt_of_lt_of_le, le_of_lt, lt_irrefl, one-mul, zero-mul, mul-suc, mul-le-mul_right, zero-lt-suc, eq-zero-or-pos}
use native.Mathlib.Decide.{dec_lt}
use native.Mathlib.Omega.{arith}
use lib.Dec.{ltb, lit≤}
use lib.Pow.{pow_pos, pow_mono}
use lib.Ieee.{Float}
use borrow.Author.Tests.{ltb-true, ltb-false}
use Rattle.model.specs.declared.Averages.{Averages}
use Rattle.model.specs.Whole.{whole, exact}
use Rattle.model.specs.Settle.{no_averages, average, averaged, settles}
use Rattle.settle.specs.Rounds.{moved}
use Rattle.settle.proofs.Laws.{gained}
use Rattle.settle.proofs.Decay.{share, full, Fallen, fallen-none, fallen-more}
use Rattle.settle.proofs.Mixed.{mixed, mixed-le, mixed-ge, mixed-half, mixed-mono, mixed-new, mixed-idle, mixed-idle-le}
use Rattle.settle.proofs.Bar.{bar, bar-ge, fallen-under}
use Rattle.settle.proofs.Values.{whole-units}
use Rattle.settle.proofs.Averaged.{Is, average-first, average-later, goes_on}

here_or_on : (i k : ℕ) → (i < k) ⊎ (k ≤ i)
here_or_on i k = elim (dec_lt i k) [ yes h ↦ inl h | no h ↦ inr (omega arith) ]

-- ---- δ after one idle round, with the weight b + 1, from a units, a ≤ u
record Idle (b a u : ℕ) (x : Float) : Type 0 where
  pub now : ℕ
  pub is : Is x now
  pub under : now ≤ u
  pub falls : now * full b ≤ a * share b + 4 * full b
  pub half : (j : ℕ) → 1 ≤ b → 2 ^ suc j ≤ a → 2 ^ j ≤ now

none : Is (whole 0) 0
none = whole-units 0 (lit≤ tt)

no_power : (j a : ℕ) → a ≡ 0 → 2 ^ suc j ≤ a → ⊥
no_power j a e h = lt_irrefl 0 (subst (λ (z : ℕ). 0 < z) e (lt_of_lt_of_le (pow_pos (suc j)) h))

idle : (b a u : ℕ) (x : Float) → b ≤ 999 → a ≤ u → 2 ^ 1074 ≤ u → u ≤ 2 ^ 1127 → Is x a → Idle b a u (average (suc b) x (whole 0))
idle b a u x B A L H p =
    elim (eq-zero-or-pos a) [
      | inl z ↦
          record {
            now = 0;
            is = subst (λ (w : Float). Is w 0) (sym (average-first (suc b) x (whole 0) (subst (λ (n : ℕ). Is x n) z p))) none;
            under = zero-le;
            falls = le_trans (le_of_eq (zero-mul (full b))) zero-le;
            half = λ j C h. absurd (no_power j a z h);
          }
      | inr P ↦
          record {
            now = mixed b a 0;
            is = average-later b x (whole 0) a 0 B P (le_trans A H) zero-le p none;
            under = mixed-idle-le b a u B A (le_trans (lit≤ tt) L);
            falls = mixed-idle b a B;
            half = λ j C h. mixed-half j b a 0 B C h;
          }
    ]

-- ---- both averages after one improving round
record Better (b a : ℕ) (s : Averages) : Type 0 where
  pub now : ℕ
  pub then : ℕ
  pub is : Is s.delta now
  pub upd : Is s.update then
  pub under : now ≤ then
  pub least : 2 ^ 1074 ≤ then
  pub most : then ≤ 2 ^ 1127
  pub half : (j : ℕ) → 1 ≤ b → 2 ^ suc j ≤ a → 2 ^ j ≤ now

-- the number of units of a gain
module _ (d : ℕ) (D : 0 < d) (E : d ≤ exact) where
  gain-is : Is (whole d) (d * 2 ^ 1074)
  gain-is = whole-units d E

  gain-most : d * 2 ^ 1074 ≤ 2 ^ 1127
  gain-most = mul-le-mul_right (2 ^ 1074) E

  gain-least : 2 ^ 1074 ≤ d * 2 ^ 1074
  gain-least = le_trans (le_of_eq (sym (one-mul (2 ^ 1074)))) (mul-le-mul_right (2 ^ 1074) D)

better : (b a u d : ℕ) (s : Averages) → b ≤ 999 → a ≤ u → 2 ^ 1074 ≤ u → u ≤ 2 ^ 1127 → 0 < d → d ≤ exact → (1 ≤ b → 0 < a) → Is s.delta a → Is s.update u
    → Better b a (moved (suc b) s (whole d) true)
better b a u d s B A L H D E alive p q =
    let n = d * 2 ^ 1074 in
    let w = gain-is d D E in
    let N = gain-most d D E in
    let M = gain-least d D E in
    let U : 0 < u = lt_of_lt_of_le (pow_pos 1074) L in
    let q' : Is (average (suc b) s.update (whole d)) (mixed b u n) = average-later b s.update (whole d) u n B U H N q w in
    elim (eq-zero-or-pos a) [
      | inl z ↦
          record {
            now = n;
            then = mixed b u n;
            is = subst (λ (v : Float). Is v n) (sym (average-first (suc b) s.delta (whole d) (subst (λ (k : ℕ). Is s.delta k) z p))) w;
            upd = q';
            under = subst (λ (k : ℕ). n ≤ mixed k u n) (sym (idle-weight b a z alive)) (mixed-new d 1074 u E);
            least = mixed-ge 1074 b u n B L M;
            most = mixed-le 1127 b u n B H N;
            half = λ j C h. absurd (no_power j a z h);
          }
      | inr P ↦
          record {
            now = mixed b a n;
            then = mixed b u n;
            is = average-later b s.delta (whole d) a n B P (le_trans A H) N p w;
            upd = q';
            under = mixed-mono b a u n A;
            least = mixed-ge 1074 b u n B L M;
            most = mixed-le 1127 b u n B H N;
            half = λ j C h. mixed-half j b a n B C h;
          }
    ]
  where
    idle-weight : (b a : ℕ) → a ≡ 0 → (1 ≤ b → 0 < a) → b ≡ 0
    idle-weight zero a z f = refl
    idle-weight (suc b) a z f = absurd (lt_irrefl 0 (subst (λ (k : ℕ). 0 < k) z (f (zero-lt-suc b))))

-- ---- After r rounds, of which suc j improve, and m idle ones since the last that does. The weight is b + 1.
-- With a weight of 1 δ can be 0. With another it is not: it is halved at most in each of the first ten rounds, and from then on it is above a hundredth.
-- δ ≤ u holds only because the run is stopped: with c = 2, δ is 0 some 1075 idle rounds after the first that improves, and then one that improves by 100 makes it 100, where u is 50.5.
record Moving (b r j m : ℕ) (s : Averages) : Type 0 where
  pub a : ℕ
  pub u : ℕ
  pub is : Is s.delta a
  pub upd : Is s.update u
  pub under : a ≤ u
  pub least : 2 ^ 1074 ≤ u
  pub most : u ≤ 2 ^ 1127
  pub fallen : Fallen b m u a
  pub alive : 1 ≤ b → 2 ^ (1064 + (10 - r)) ≤ a
  pub idle : m ≤ r
  pub few : m ≤ 7 * suc b + 10
  pub count : r ≤ 10 + (7 * suc b + 1) * j + m
  pub total : r ≤ 10 + (7 * suc b + 1) * j + 7 * suc b

-- after r rounds, of which i improve
data Known (b r i : ℕ) (s : Averages) : Type 0 where
  quiet : Is s.delta 0 → Is s.update 0 → i ≡ 0 → r ≤ 10 → Known b r i s
  moving : (j m : ℕ) → i ≡ suc j → Moving b r j m s → Known b r i s

alive-next : (b r a a' u : ℕ) → 2 ^ 1074 ≤ u → (10 ≤ r → bar u < a) → ((j : ℕ) → 1 ≤ b → 2 ^ suc j ≤ a → 2 ^ j ≤ a') → (1 ≤ b → 2 ^ (1064 + (10 - r)) ≤ a) → 1 ≤ b → 2 ^ (1064 + (10 - suc r)) ≤ a'
alive-next b r a a' u L on half alive C =
    elim (here_or_on r 10) [
      | inl h ↦ half (1064 + (10 - suc r)) C (subst (λ (e : ℕ). 2 ^ e ≤ a) (early r h) (alive C))
      | inr h ↦ le_trans (pow_mono (late r h)) (half 1066 C (le_trans (bar-ge 1067 u L) (le_of_lt (on h))))
    ]
  where
    early : (r : ℕ) → r < 10 → 1064 + (10 - r) ≡ suc (1064 + (10 - suc r))
    early r h = omega arith

    late : (r : ℕ) → 10 ≤ r → 1064 + (10 - suc r) ≤ 1066
    late r h = omega arith

-- where the run goes on after the tenth round, the idle rounds are fewer than 7 * c
fewer : (b m u a r : ℕ) → b ≤ 999 → m ≤ 7 * suc b + 10 → 2 ^ 1074 ≤ u → Fallen b m u a → (10 ≤ r → bar u < a) → 10 ≤ r → m < 7 * suc b
fewer b m u a r B few L f on R =
    elim (here_or_on m (7 * suc b)) [
      | inl h ↦ h
      | inr h ↦ absurd (clash (bar u) a (on R) (fallen-under b m u a h (cap b m B few) (le_trans (lit≤ tt) L) f))
    ]
  where
    clash : (x y : ℕ) → x < y → y ≤ x → ⊥
    clash x y p q = omega arith

    cap : (b m : ℕ) → b ≤ 999 → m ≤ 7 * suc b + 10 → m ≤ 8000
    cap b m p q = omega arith

step-idle : (b r j m : ℕ) (s : Averages) → b ≤ 999 → settles r s ≡ false → Moving b r j m s → Moving b (suc r) j (suc m) (moved (suc b) s (whole 0) false)
step-idle b r j m s B t k =
    let on : 10 ≤ r → bar k.u < k.a = λ R. goes_on s k.a k.u r k.is k.upd k.most R t in
    let less : 10 ≤ r → m < 7 * suc b = fewer b m k.u k.a r B k.few k.least k.fallen on in
    let i = idle b k.a k.u s.delta B k.under k.least k.most k.is in
    record {
      a = i.now;
      u = k.u;
      is = i.is;
      upd = k.upd;
      under = i.under;
      least = k.least;
      most = k.most;
      fallen = fallen-more b m k.u k.a i.now i.falls k.fallen;
      alive = alive-next b r k.a i.now k.u k.least on i.half k.alive;
      idle = one_more m r k.idle;
      few = few-next (suc b) m r k.idle less;
      count = count_next r m ((7 * suc b + 1) * j) k.count;
      total = total-next (suc b) m r ((7 * suc b + 1) * j) k.count less;
    }
  where
    one_more : (m r : ℕ) → m ≤ r → suc m ≤ suc r
    one_more m r h = omega arith

    few-next : (c m r : ℕ) → m ≤ r → (10 ≤ r → m < 7 * c) → suc m ≤ 7 * c + 10
    few-next c m r h f = elim (here_or_on r 10) [ inl l ↦ omega arith | inr l ↦ omega (arith, f l) ]

    count_next : (r m z : ℕ) → r ≤ 10 + z + m → suc r ≤ 10 + z + suc m
    count_next r m z h = omega arith

    total-next : (c m r z : ℕ) → r ≤ 10 + z + m → (10 ≤ r → m < 7 * c) → suc r ≤ 10 + z + 7 * c
    total-next c m r z h f = elim (here_or_on r 10) [ inl l ↦ omega arith | inr l ↦ omega (arith, f l) ]

step-better : (b r j m d : ℕ) (s : Averages) → b ≤ 999 → 0 < d → d ≤ exact → settles r s ≡ false → Moving b r j m s → Moving b (suc r) (suc j) 0 (moved (suc b) s (whole d) true)
step-better b r j m d s B D E t k =
    let on : 10 ≤ r → bar k.u < k.a = λ R. goes_on s k.a k.u r k.is k.upd k.most R t in
    let i = better b k.a k.u d s B k.under k.least k.most D E (λ C. lt_of_lt_of_le (pow_pos (1064 + (10 - r))) (k.alive C)) k.is k.upd in
    record {
      a = i.now;
      u = i.then;
      is = i.is;
      upd = i.upd;
      under = i.under;
      least = i.least;
      most = i.most;
      fallen = fallen-none b i.then i.now i.under;
      alive = alive-next b r k.a i.now k.u k.least on i.half k.alive;
      idle = zero-le;
      few = zero-le;
      count = count_next r b ((7 * suc b + 1) * j) ((7 * suc b + 1) * suc j) (mul-suc (7 * suc b + 1) j) k.total;
      total = total-next r b ((7 * suc b + 1) * j) ((7 * suc b + 1) * suc j) (mul-suc (7 * suc b + 1) j) k.total;
    }
  where
    count_next : (r b z w : ℕ) → w ≡ z + (7 * suc b + 1) → r ≤ 10 + z + 7 * suc b → suc r ≤ 10 + w + 0
    count_next r b z w e h = omega arith

    total-next : (r b z w : ℕ) → w ≡ z + (7 * suc b + 1) → r ≤ 10 + z + 7 * suc b → suc r ≤ 10 + w + 7 * suc b
    total-next r b z w e h = omega arith

-- the first round that improves
first : (b r d : ℕ) (s : Averages) → 0 < d → d ≤ exact → r < 10 → Is s.delta 0 → Is s.update 0 → Moving b (suc r) 0 0 (moved (suc b) s (whole d) true)
first b r d s D E R p q =
    let n = d * 2 ^ 1074 in
    record {
      a = n;
      u = n;
      is = fresh s.delta p;
      upd = fresh s.update q;
      under = le_refl n;
      least = gain-least d D E;
      most = gain-most d D E;
      fallen = fallen-none b n n (le_refl n);
      alive = λ C. le_trans (pow_mono (ten r)) (gain-least d D E);
      idle = zero-le;
      few = zero-le;
      count = early r ((7 * suc b + 1) * 0) 0 R;
      total = early r ((7 * suc b + 1) * 0) (7 * suc b) R;
    }
  where
    fresh : (x : Float) → Is x 0 → Is (average (suc b) x (whole d)) (d * 2 ^ 1074)
    fresh x z = subst (λ (v : Float). Is v (d * 2 ^ 1074)) (sym (average-first (suc b) x (whole d) z)) (gain-is d D E)

    ten : (r : ℕ) → 1064 + (10 - suc r) ≤ 1074
    ten r = omega arith

    early : (r z w : ℕ) → r < 10 → suc r ≤ 10 + z + w
    early r z w h = omega arith

-- before it the rule holds after ten rounds
quiet-early : (r : ℕ) (s : Averages) → Is s.delta 0 → Is s.update 0 → settles r s ≡ false → r < 10
quiet-early r s p q t = elim (here_or_on r 10) [ inl h ↦ h | inr h ↦ absurd (below-zero (bar 0) (goes_on s 0 0 r p q zero-le h t)) ]
  where
    below-zero : (x : ℕ) → x < 0 → ⊥
    below-zero x h = omega arith

known-idle : (b r i : ℕ) (s : Averages) → b ≤ 999 → settles r s ≡ false → Known b r i s → Known b (suc r) i (moved (suc b) s (whole 0) false)
known-idle b r i s B t (quiet p q e h) = quiet (subst (λ (v : Float). Is v 0) (sym (average-first (suc b) s.delta (whole 0) p)) none) q e (quiet-early r s p q t)
known-idle b r i s B t (moving j m e k) = moving j (suc m) e (step-idle b r j m s B t k)

known-better : (b r i d : ℕ) (s : Averages) → b ≤ 999 → 0 < d → d ≤ exact → settles r s ≡ false → Known b r i s → Known b (suc r) (i + 1) (moved (suc b) s (whole d) true)
known-better b r i d s B D E t (quiet p q e h) = moving 0 0 (omega arith) (first b r d s D E (quiet-early r s p q t) p q)
known-better b r i d s B D E t (moving j m e k) = moving (suc j) 0 (omega arith) (step-better b r j m d s B D E t k)

-- by whether the round improves
known_next : (b r i d : ℕ) (s : Averages) (o : Bool) → b ≤ 999 → d ≤ exact → settles r s ≡ false → (o ≡ true → 0 < d) → (o ≡ false → d ≡ 0) → Known b r i s
    → Known b (suc r) (i + cond o 1 0) (moved (suc b) s (whole d) o)
known_next b r i d s true B E t f g k = known-better b r i d s B (f refl) E t k
known_next b r i d s false B E t f g k = rw (g refl, add-zero) (known-idle b r i s B t k)

known-bound : (b r i : ℕ) (s : Averages) → Known b r i s → r ≤ 10 + (7 * suc b + 1) * i
known-bound b r i s (quiet p q e h) = le_trans h (plus 10 ((7 * suc b + 1) * i))
  where
    plus : (x z : ℕ) → x ≤ x + z
    plus x z = omega arith
known-bound b r i s (moving j m e k) =
    subst (λ (n : ℕ). r ≤ 10 + (7 * suc b + 1) * n) (sym e) (all r b ((7 * suc b + 1) * j) ((7 * suc b + 1) * suc j) (mul-suc (7 * suc b + 1) j) k.total)
  where
    all : (r b z w : ℕ) → w ≡ z + (7 * suc b + 1) → r ≤ 10 + z + 7 * suc b → r ≤ 10 + w
    all r b z w f h = omega arith

-- ---- What is known of the averages of a run with the weight c that has gone on for `done` rounds, of which i improve. A caller goes by the three laws below.
pub record Going (c done i : ℕ) (s : Averages) : Type 0 where
  b : ℕ
  weight : suc b ≡ c
  small : b ≤ 999
  known : Known b done i s

-- where it begins
pub going_start : (c : ℕ) → 1 ≤ c → c ≤ 1000 → Going c 0 0 no_averages
going_start zero C E = absurd (lt_irrefl 0 C)
going_start (suc b) C E = record { b = b; weight = refl; small = omega arith; known = quiet (refl, refl) (refl, refl) refl zero-le }

-- after a round that takes the cost from old to new, before which the rule did not hold
pub going_next : (c done i old new : ℕ) (s : Averages) → old ≤ exact → new ≤ old → settles done s ≡ false → Going c done i s
    → Going c (suc done) (i + cond (ltb new old) 1 0) (averaged c s old new)
going_next c done i old new s E N t k =
    let o = ltb new old in
    let n = known_next k.b done i (old - new) s o k.small (omega arith) t (λ h. positive (ltb-true new old h)) (λ h. none_left (ltb-false new old h)) k.known in
    record {
      b = k.b;
      weight = k.weight;
      small = k.small;
      known =
          subst (Known k.b (suc done) (i + cond o 1 0)) (sym (gained c s old new E N))
          (subst (λ (z : ℕ). Known k.b (suc done) (i + cond o 1 0) (moved z s (whole (old - new)) o)) k.weight n);
    }
  where
    positive : new < old → 0 < old - new
    positive h = omega arith

    none_left : old ≤ new → old - new ≡ 0
    none_left h = omega arith

-- the rounds are few
pub going-bound : (c done i : ℕ) (s : Averages) → Going c done i s → done ≤ 10 + (7 * c + 1) * i
going-bound c done i s k = subst (λ (z : ℕ). done ≤ 10 + (7 * z + 1) * i) k.weight (known-bound k.b done i s k.known)
