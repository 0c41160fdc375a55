use Rattle.std.proofs.Common.{refl, arith}
use Rattle.rebuild_ways.proofs.Laws.{exact-whole, exact-known, zeros-whole}
use Rattle.rebuild_ways.proofs.Gaps.{prices-kept, gaps-fillable, filled}
use Rattle.rebuild_ways.proofs.Ways.filled.Goals as goal

pub fill_rows-requires : goal.fill_rows-requires
fill_rows-requires c = (c.requires.from, c.requires.to, (refl, zeros-whole 256))

pub invariant_of-ways : goal.invariant_of-ways
invariant_of-ways c =
    let a = c.args.tariff.now.affordable in
    let p = c.args.tariff.now.prices in
    record {
      whole_legs = c.fill_rows.ensures.roomy.1;
      whole_own = zeros-whole 4;
      whole_vacant = zeros-whole 4;
      whole_prices = (exact-whole p.linear (omega (arith, a.linear)), exact-whole p.quadratic (omega (arith, a.quadratic)), exact-known c.of_u64-missed.result (p.missed, omega (arith, a.missed), c.of_u64-missed.ensures));
      whole_base = exact-known c.args.base c.requires.known;
    }

pub fill_gaps-requires : goal.fill_gaps-requires
fill_gaps-requires c =
    let a = c.args in
    gaps-fillable a.tariff.now a.starts.now a.ends.now a.gaps.now a.p a.base c.requires _ _ c.fill_rows.ensures
    (prices-kept a.tariff.now.prices a.tariff.now.affordable c.of_u64-missed.result c.of_u64-missed.ensures)

pub returns : goal.returns
returns c =
    let a = c.args in
    filled a.tariff.now a.starts.now a.ends.now a.gaps.now a.p a.base c.requires _ _ c.fill_rows.ensures
    (prices-kept a.tariff.now.prices a.tariff.now.affordable c.of_u64-missed.result c.of_u64-missed.ensures) refl c.fill_gaps.new.self c.fill_gaps.ensures
