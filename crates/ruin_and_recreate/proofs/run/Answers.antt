use mathlib.Core.Logic.{⊎_elim}
use borrow.Author.Tests.{lt-ltb, le-ltb}
use native.Mathlib.Omega.{arith}
use Rattle.ruin_and_recreate.proofs.Whole.{started-itself, no-vehicle, few-stops, some-rounds, ran-none, sized, ran-rounds}
use Rattle.ruin_and_recreate.proofs.run.Goals as goal

pub start_plan-plan-requires : goal.start_plan-plan-requires
start_plan-plan-requires c = c.requires.sizes

pub returns-then-v-eq0 : goal.returns-then-v-eq0
returns-then-v-eq0 c =
    let a = c.args in
    let S = c.start_plan-plan.ensures in
    record {
      sizes = (S.vehicles, S.stops);
      ran =
          ran-none a.tariff.now a.v a.n a.settings.now _ S _ c.cost-start.ensures.job
          (⊎_elim (λ x. no-vehicle a.v a.n x) (λ x. few-stops a.v a.n (lt-ltb _ _ x.1)) c.then-v-eq0.either);
    }

pub rounds-last-requires : goal.rounds-last-requires
rounds-last-requires c =
    let a = c.args in
    let S = c.start_plan-plan.ensures in
    record {
      course =
          record {
            several = omega (arith, S.stops, c.if-n-lt2.false);
            long = c.neighbours.auto.near;
            rows = rw S.stops c.neighbours.ensures.neighbours;
            some = c.requires.some;
            smooth = c.requires.smooth;
          };
      started = (started-itself _ _ _ _ S, c.cost-start.ensures.job);
    }

pub returns : goal.returns
returns c =
    let a = c.args in
    let S = c.start_plan-plan.ensures in
    record {
      sizes = sized a.tariff.now a.v a.n a.settings.now _ S _ c.cost-start.ensures.job _ _ c.rounds-last.ensures;
      ran =
          ran-rounds a.tariff.now a.v a.n a.settings.now _ S _ c.cost-start.ensures.job _ _ c.rounds-last.ensures _
          (some-rounds a.v a.n c.if-v-eq0.false (le-ltb _ _ c.if-n-lt2.false)) c.settled.ensures;
    }
