-- The bound for model's runs, and with it the promise about a whole run from what is known of a single round.
use mathlib.Core.Path.{◌≡◌}
use mathlib.Core.Bool.{true, false}
use Prim.Native.Nat.{◌+◌, ◌*◌, ◌≤◌}
use Rattle.model.specs.Cost.{cost}
use Rattle.model.specs.Run.{Task, State, start_state, round_from, rounds, last_state, ends}
use Rattle.model.specs.Calls.{has_rounds, rounds_of, final_state, totals}
use Rattle.model.specs.Promise.{Promise}
use Rattle.model.proofs.Runs.{start-goes, kept}
use Rattle.model.proofs.Promised.{RoundFacts, promise}
use Rattle.settle.proofs.Going.{Going, going_start, going_next, going-bound}

module _ (T : Task) (Good : State → Type 0) (M : RoundFacts T Good) (C : 1 ≤ T.smoothing) (D : T.smoothing ≤ 1000) where
  abbrev GoingState : State → Type 0
  GoingState s = Good s × Going T.smoothing s.done s.improving s.averages

  goes : (s : State) → ends s ≡ false → GoingState s → GoingState (round_from T s).end
  unfolding round_from
  goes s e k =
      let old = cost T.job s.plan in
      let new = cost T.job (round_from T s).end.plan in (
        M.keeps s e k.0,
        going_next T.smoothing s.done s.improving old new s.averages (M.exactly s k.0) (M.no_dearer s k.0) e k.1,
      )

  pub run-bound : let end = last_state (start_state T) (rounds T.limit false T (start_state T)) in end.done ≤ 10 + (7 * T.smoothing + 1) * end.improving
  run-bound =
      let end = last_state (start_state T) (rounds T.limit false T (start_state T)) in
      going-bound T.smoothing end.done end.improving end.averages
      (kept T GoingState goes T.limit false (start_state T) (start-goes T) (M.start, going_start T.smoothing C D)).1

  pub promised : has_rounds T.job ≡ true → Promise T (rounds_of T) (totals T) (final_state T).plan
  promised h = promise T Good M run-bound h
