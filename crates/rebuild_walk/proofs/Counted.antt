-- The steps of a call, once it is counted: what it hands on to the next gap or meets.
use Rattle.std.proofs.Common.{◌≡◌, ℕ, ◌+◌, ◌*◌, ◌%◌, ◌<◌, ◌≤◌, length, sym, subst, arith}
use lib.Ieee.{Float, binary64, add, sub}
use Rattle.model.specs.StopSet.{stops_of, excluding}
use Rattle.stop_set.specs.Answers.{First}
use Rattle.model.specs.Whole.{whole, amount}
use Rattle.model.specs.Cost.{price}
use Rattle.rebuild_tables.specs.declared.frame.Frame.{Frame}
use Rattle.rebuild_tables.specs.Frame.{gap_count, placed_count}
use Rattle.rebuild_ways.specs.declared.Ways.{Ways}
use Rattle.rebuild_ways.specs.Ways.{way_at, own_at, vacant_at, prices_at}
use Rattle.rebuild_tables.specs.declared.Kept.{Kept}
use Rattle.rebuild_tables.specs.Kept.{Counted}
use Rattle.rebuild_tables.specs.Meeting.{Comparable, Met}
use Rattle.rebuild_tables.specs.Walks.{Walkable, Walked}
use Rattle.rebuild_tables.proofs.Weights.{cost-is, here-opened, here-stop}
use Rattle.rebuild_tables.proofs.Steps.{Opened, Looping, call_next, opened-next, meet-asks, meet_left, opened-last, in_left, call-stop, looping-on}

module _ {ways : Ways} {f : Frame} {kept : Kept} {q left word : ℕ} {len others best : Float} (c : Walkable ways f kept q left word len others best)
    {counted : Kept} (ek : Counted q kept counted) (closed : Float)
    (ec : closed ≡ whole (price (prices_at ways) (amount len + way_at ways (word % 16) (8 + q)))) (g : ℕ) (eg : g ≡ gap_count f) where
  abbrev cost : Float
  cost = add binary64 others closed

  module _ (h : q + 1 < g) (w : ℕ) (ew : w ≡ word * 16 + (8 + (q + 1))) where
    ahead : q + 1 < gap_count f
    ahead = omega arith

    pub next-call : (own vacant : Float) → own ≡ whole (own_at ways (q + 1)) → vacant ≡ whole (vacant_at ways (q + 1))
        → Walkable ways f counted (q + 1) left w own (sub binary64 cost vacant) best
    next-call own vacant eo ev =
        call_next c ek ahead w ew own (sub binary64 cost vacant)
        (here-opened c.tabled c.here ahead w ew own cost vacant eo
        (cost-is c.tabled c.here closed ec) ev)

    pub next-opened : (k : Kept) (found : Float) → Walked ways f counted (q + 1) left w k found → Opened ways f q left word kept k found
    next-opened k found d = opened-next c ek ahead w ew k found d

  module _ (h : g ≤ q + 1) where
    behind : gap_count f ≤ q + 1
    behind = omega arith

    pub met-asked : Comparable f counted word cost best × (length (stops_of left) ≤ placed_count f)
    met-asked =
        let e = cost-is c.tabled c.here closed ec in (
          meet-asks c ek behind cost e,
          meet_left c ek behind cost e,
        )

    pub met-opened : (k : Kept) (found : Float) → Met f left word cost best counted k found → Opened ways f q left word kept k found
    met-opened k found m =
        opened-last c ek behind cost
        (cost-is c.tabled c.here closed ec) k found m

-- one stop more: the call, and what comes of it
module _ {ways : Ways} {f : Frame} {kept : Kept} {q left word : ℕ} {len others best : Float} (c : Walkable ways f kept q left word len others best)
    {k₀ : Kept} {found₀ : Float} (o : Opened ways f q left word kept k₀ found₀) {k : Kept} {found : Float} {next : ℕ}
    (l : Looping ways f q left word k₀ k found next) {s rest fewer : ℕ} (first : First next s) (er : rest ≡ excluding s next)
    (ef : fewer ≡ excluding s left) (w : ℕ) (ew : w ≡ word * 16 + s) where
  pub stop-call : (gone missed : Float) → gone ≡ whole (amount len + way_at ways (word % 16) s) → missed ≡ whole (prices_at ways).missed
      → Walkable ways f k q fewer w gone (sub binary64 others missed) found
  stop-call gone missed eg em =
      subst (λ (x : ℕ). Walkable ways f k q fewer x gone (sub binary64 others missed) found) (sym ew)
      (call-stop c o l first er ef gone (sub binary64 others missed)
      (here-stop c.tabled c.here s
      (in_left c o l first er ef) fewer ef gone missed eg em))

  pub stop-again : (k' : Kept) (found' : Float) → Walked ways f k q fewer w k' found' → Looping ways f q left word k₀ k' found' rest
  stop-again k' found' d =
      looping-on c o l first er ef k' found'
      (subst (λ (x : ℕ). Walked ways f k q fewer x k' found') ew d)
