-- The rows of a table of ways are filled number by number.
use Rattle.std.proofs.Common.{◌≡◌, ℕ, zero, suc, ◌+◌, ◌*◌, ◌≤◌, ◌<◌, List, [], ◌∷◌, length, get_or, set, refl, sym, ap, ◌∙◌, subst, arith, length-set, get_or-set_same, get_or-set_other}
use lib.Ieee.{Float}
use borrow.Author.Count.{below_more}
use Rattle.model.specs.Whole.{exact, whole, amount}
use Rattle.model.specs.Legs.{leg_at}
use Rattle.whole.proofs.Laws.{amount-is}
use Rattle.rebuild_ways.specs.Exact.{IsExact, Wholly}
use Rattle.rebuild_ways.specs.Ways.{cell_at}
use Rattle.rebuild_ways.specs.Fills.{Roomy, leg_in, Written, InRow, InRows, RowFilled, RowsFilled}
use Rattle.rebuild_ways.proofs.Laws.{exact-whole}

-- ---- one number is written

-- all numbers stay whole
pub whole-put : (xs : List Float) → Wholly xs → (j : ℕ) (x : Float) → IsExact x → Wholly (set xs j x)
whole-put [] W j x X i = W i
whole-put (y ∷ xs) W zero x X zero = X
whole-put (y ∷ xs) W zero x X (suc i) = W (suc i)
whole-put (y ∷ xs) W (suc j) x X zero = W 0
whole-put (y ∷ xs) W (suc j) x X (suc i) = whole-put xs (λ k. W (suc k)) j x X i

module _ (xs : List Float) (j : ℕ) (x : Float) where
  pub put-here : (n : ℕ) → j < length xs → x ≡ whole n → n ≤ exact → cell_at (set xs j x) j ≡ n
  put-here n h e s = amount-is _ n s (get_or-set_same xs j x (whole 0) h ∙ e)

  pub put-elsewhere : (i : ℕ) → (i ≡ j → ⊥) → cell_at (set xs j x) i ≡ cell_at xs i
  put-elsewhere i h = ap amount (get_or-set_other xs j i x (whole 0) h)

-- nothing is written yet
pub begins : (of : ℕ → Type 0) (xs : List Float) → Wholly xs → Written of xs xs
begins of xs W = record { long = refl; whole = W; kept = λ i h. refl }

-- one number more, at a place of the kind
pub more : (of wide : ℕ → Type 0) (before xs : List Float) (j : ℕ) (x : Float) → Written of before xs → ((i : ℕ) → of i → wide i)
    → wide j → IsExact x → Written wide before (set xs j x)
more of wide before xs j x W widen at X =
    record {
      long = length-set xs j x ∙ W.long;
      whole = whole-put xs W.whole j x X;
      kept = λ i h. put-elsewhere xs j x i (λ e. h (subst wide (sym e) at)) ∙ W.kept i (λ o. h (widen i o));
    }

-- ---- a row, and all rows

module _ (t : List ℕ) (from : ℕ) (ends : List ℕ) (r : ℕ) where
  pub row-begins : (rows : List Float) → Roomy rows → RowFilled t from ends r 0 rows rows
  row-begins rows R = record { roomy = R; written = begins (InRow r 0) rows R.1; row = λ c h. absurd (omega arith) }

  pub row_more : (m : ℕ) (before rows : List Float) (n : ℕ) → RowFilled t from ends r m before rows → r < 16 → m < 16
      → n ≡ leg_at t from (get_or ends m 0) → n ≤ 200000 → RowFilled t from ends r (m + 1) before (set rows (16 * r + m) (whole n))
  row_more m before rows n R k h l s =
      let x : Float = whole n in
      record {
        roomy = (length-set rows (16 * r + m) x ∙ R.roomy.0, whole-put rows R.roomy.1 (16 * r + m) x (exact-whole n (omega arith)));
        written =
            more (InRow r m) (InRow r (m + 1)) before rows (16 * r + m) x R.written (λ i o. (o.0, omega (arith, o.1), o.2))
            (m, omega arith, refl) (exact-whole n (omega arith));
        row =
            below_more (λ c. leg_in (set rows (16 * r + m) x) r c ≡ leg_at t from (get_or ends c 0)) m
            (λ c k. put-elsewhere rows (16 * r + m) x (16 * r + c) (λ q. omega arith) ∙ R.row c k)
            (put-here rows (16 * r + m) x n (omega (arith, R.roomy.0)) refl (omega arith) ∙ l);
      }

module _ (t starts ends : List ℕ) where
  pub rows-begin : (rows : List Float) → Roomy rows → RowsFilled t starts ends 0 rows rows
  rows-begin rows R = record { roomy = R; written = begins (InRows 0) rows R.1; rows = λ r c h. absurd (omega arith) }

  pub rows_more : (m : ℕ) (before rows after : List Float) → RowsFilled t starts ends m before rows
      → RowFilled t (get_or starts m 0) ends m 11 rows after → RowsFilled t starts ends (m + 1) before after
  rows_more m before rows after R N =
      record {
        roomy = N.roomy;
        written = record {
          long = N.written.long ∙ R.written.long;
          whole = N.written.whole;
          kept = λ i h. N.written.kept i (λ o. h (m, omega arith, o)) ∙ R.written.kept i (λ o. h (o.0, omega (arith, o.1), o.2));
        };
        rows = λ r c h.
            below_more (λ r. (c : ℕ) → c < 11 → leg_in after r c ≡ leg_at t (get_or starts r 0) (get_or ends c 0)) m
            (λ r k c l. N.written.kept (16 * r + c) (λ o. omega (arith, o.1, o.2)) ∙ R.rows r c k l)
            (λ c l. N.row c l) r h c;
      }
