-- Regions written one after another.
use Rattle.std.specs.Prelude.{Option, Some, None}
use Prim.Native.Nat.{ℕ, ◌+◌, ◌-◌, ◌/◌, ◌<◌, ◌≤◌}
use native.Mathlib.Omega.{arith}
use native.Mathlib.Numerals.{add-one}
use mathlib.Core.Path.{◌≡◌, refl, sym, ap, ◌∙◌}
use mathlib.Core.Bool.{true}
use mathlib.Core.List.{List, [], map}
use lib.ListN.{length, get_or, take, drop, set, length-set}
use lib.Seq.{get_or-take, take-suc, take-suc-set, length-take-le, drop-set-lt}
use Rattle.model.specs.Lists.{count}
use Rattle.model.specs.Plan.{Plan, is_placed}
use Rattle.model.specs.declared.Region.{Region}
use Rattle.model.specs.Region.{keep_picks, region_of, regions}
use Rattle.rebuild_regions.specs.Around.{region_found}
use Rattle.model.proofs.Lists.{map-append, count-at}
use Rattle.model.proofs.Members.{count-in}
use Rattle.model.proofs.Regions.{kept-placed}

-- the regions of the first i of p kept picks are written
pub record Written (P : Plan) (size : ℕ) (kept : List ℕ) (p : ℕ) (out₀ out : List Region) (i : ℕ) : Type 0 where
  pub within : i ≤ p
  pub long : length out ≡ length out₀
  pub so : take i out ≡ map (region_of P size) (take i kept)
  pub after : (k : ℕ) → i ≤ k → drop k out ≡ drop k out₀

pub written_none : (P : Plan) (size : ℕ) (kept : List ℕ) (p : ℕ) (out : List Region) → Written P size kept p out out 0
written_none P size kept p out = record { within = omega arith; long = refl; so = refl; after = λ k h. refl }

pub written-more : (P : Plan) (size : ℕ) (kept : List ℕ) (p : ℕ) (out₀ out out' : List Region) (i : ℕ) → i < p → p ≤ length kept → p ≤ length out₀
    → out' ≡ set out i (region_of P size (get_or kept i 0)) → Written P size kept p out₀ out i → Written P size kept p out₀ out' (i + 1)
written-more P size kept p out₀ out out' i h k room e w =
    let g : Region = region_of P size (get_or kept i 0) in
    rw e (record {
      within = omega arith;
      long = length-set out i g ∙ w.long;
      so = rw (add-one, take-suc-set out i g (omega (arith, w.long)), w.so, take-suc kept i 0 (omega arith), map-append);
      after = λ k h. drop-set-lt k out i g (omega arith) ∙ w.after k (omega arith);
    })

-- the region around a stop that is placed is found
module _ (P : Plan) (size s : ℕ) (on : is_placed s P ≡ true) (r : Option Region) (e : r ≡ region_found P size s) where
  found : r ≡ Some (region_of P size s)
  found = e ∙ rw on

  pub found_region : (g : Region) → r ≡ Some g → g ≡ region_of P size s
  found_region g h = let f = found in cc

  pub found_none : r ≡ None → ⊥
  found_none h = let f = found in cc

-- the first p of a list are the picks that are kept
module _ (P : Plan) (picks kept : List ℕ) (p : ℕ) (e : take p kept ≡ keep_picks P [] picks) (room : p ≤ length kept) where
  pub kept_on : (i : ℕ) → i < p → is_placed (get_or kept i 0) P ≡ true
  kept_on i h =
      let long : length (take p kept) ≡ p = length-take-le p kept room in
      let one : 1 ≤ count (get_or (take p kept) i 0) (take p kept) = count-at (take p kept) i (omega arith) in
      (kept-placed P [] picks (get_or kept i 0) (rw (e) at (count-in (get_or kept i 0) (take p kept) (rw (get_or-take p kept i 0 h) at one)))).0

  pub written-none-kept : (out : List Region) → p ≡ 0 → take 0 out ≡ regions P picks
  unfolding regions
  written-none-kept out z = let none : keep_picks P [] picks ≡ [] = sym e ∙ rw z in rw none

  pub written_all : (size : ℕ) (out₀ out : List Region) (i : ℕ) → size ≡ (8 - length picks) / p → p ≤ i → Written P size kept p out₀ out i
      → (take p out ≡ regions P picks) × (drop p out ≡ drop p out₀)
  unfolding regions
  written_all size out₀ out i q h w =
      let same : i ≡ p = omega (arith, w.within) in
      let long : length (keep_picks P [] picks) ≡ p = ap length (sym e) ∙ length-take-le p kept room in
      (rw (long, ← q, ← e) (rw same at w.so), w.after p (omega arith))
