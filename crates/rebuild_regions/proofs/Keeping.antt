-- The loop over the picks: those that are kept so far, and the vehicles that they name.
use Prim.Native.Nat.{ℕ, ◌+◌, ◌<◌, ◌≤◌}
use native.Mathlib.Omega.{arith}
use native.Mathlib.Nat.{zero-div}
use native.Mathlib.Numerals.{add-one}
use mathlib.Core.Path.{◌≡◌, refl, sym, ◌∙◌}
use mathlib.Core.Logic.{inl, inr}
use mathlib.Core.Bool.{true, false}
use mathlib.Core.List.{List, [], ◌∷◌, ◌++◌, append-nil, append_assoc}
use lib.ListN.{length, get_or, take, drop, set, length-set}
use lib.Seq.{take-suc-set}
use Rattle.model.specs.Lists.{member}
use Rattle.model.specs.StopSet.{contains, including}
use Rattle.model.specs.Plan.{Plan, vehicle_of, is_placed}
use Rattle.model.specs.Region.{keep_picks}
use Rattle.model.proofs.Lists.{Tested, tested}
use Rattle.stop_set.proofs.Digits.{bit-including-same, bit-including-other}
use Rattle.solution.proofs.Walks.{from-here, from_end}

-- the set holds these vehicles
abbrev Names : List ℕ → ℕ → Type 0
Names names named = (k : ℕ) → contains k named ≡ member k names

-- the first i picks are through, and p of them are kept
pub record Picking (P : Plan) (picks kept₀ kept : List ℕ) (named p i : ℕ) : Type 0 where
  pub within : i ≤ length picks
  pub few : p ≤ i
  pub long : length kept ≡ length kept₀
  pub names : List ℕ
  pub has : Names names named
  pub rest : take p kept ++ keep_picks P names (drop i picks) ≡ keep_picks P [] picks

pub kept-none : (P : Plan) (picks kept : List ℕ) → Picking P picks kept kept 0 0 0
kept-none P picks kept = record { within = omega arith; few = omega arith; long = refl; names = []; has = λ k. rw zero-div; rest = refl }

-- one vehicle more
names_more : (k : ℕ) (names : List ℕ) (named named' : ℕ) → named' ≡ including k named → Names names named → Names (k ∷ names) named'
names_more k names named named' e h j = rw e (go (tested j k))
  where
    go : Tested j k → contains j (including k named) ≡ member j (k ∷ names)
    go (inl q) = rw (q.1, q.0, bit-including-same k named)
    go (inr q) = rw (q.1, bit-including-other j k named q.0) (h j)

module _ {P : Plan} {picks kept₀ kept : List ℕ} {named p i : ℕ} (c : Picking P picks kept₀ kept named p i) (h : i < length picks) where
  -- the pick at i, and its vehicle
  abbrev s : ℕ
  s = get_or picks i 0

  module _ (k : ℕ) (ek : k ≡ vehicle_of s P) where
    -- nothing changes
    module _ (kept' : List ℕ) (named' p' : ℕ) (a : kept' ≡ kept) (b : named' ≡ named) (d : p' ≡ p) where
      skipped : keep_picks P c.names (s ∷ drop (i + 1) picks) ≡ keep_picks P c.names (drop (i + 1) picks) → Picking P picks kept₀ kept' named' p' (i + 1)
      skipped e =
          rw (a, b, d) (record {
            within = omega arith;
            few = omega (arith, c.few);
            long = c.long;
            names = c.names;
            has = c.has;
            rest = rw (from-here picks i h, e) at c.rest;
          })

      -- the pick is on no vehicle
      pub kept_off : is_placed s P ≡ false → Picking P picks kept₀ kept' named' p' (i + 1)
      kept_off g = skipped (rw g)

      -- or on one that is named
      pub kept-named : is_placed s P ≡ true → contains k named ≡ true → Picking P picks kept₀ kept' named' p' (i + 1)
      kept-named g t = skipped (rw (g, ← (c.has (vehicle_of s P)), ← ek, t))

    -- or it is kept
    pub kept_more : (kept' : List ℕ) (named' p' : ℕ) → length picks ≤ length kept₀ → is_placed s P ≡ true → contains k named ≡ false
        → kept' ≡ set kept p s → named' ≡ including k named → p' ≡ p + 1 → Picking P picks kept₀ kept' named' p' (i + 1)
    kept_more kept' named' p' room g t a b d =
        let fresh : member (vehicle_of s P) c.names ≡ false = sym (c.has (vehicle_of s P)) ∙ rw (← ek) t in
        let space : p < length kept = omega (arith, c.few, c.long) in
        rw (a, b, d, ek) (record {
          within = omega arith;
          few = omega (arith, c.few);
          long = length-set kept p s ∙ c.long;
          names = vehicle_of s P ∷ c.names;
          has = names_more (vehicle_of s P) c.names named (including (vehicle_of s P) named) refl c.has;
          rest = rw (add-one p, take-suc-set kept p s space, append_assoc) (rw (from-here picks i h, g, fresh) at c.rest);
        })

-- all picks are through
pub kept-all : {P : Plan} {picks kept₀ kept : List ℕ} {named p i : ℕ} → Picking P picks kept₀ kept named p i → length picks ≤ i
    → (take p kept ≡ keep_picks P [] picks) × (p ≤ length picks)
kept-all {P} {picks} {kept₀} {kept} {named} {p} {i} c e =
    (sym (append-nil (take p kept)) ∙ (rw (from_end picks i (omega (arith, c.within))) at c.rest), omega (arith, c.within, c.few))
