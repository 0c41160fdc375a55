-- What an event of a day is refused with. The job, the plan and the live set give no reason, so its own stop decides.
use Rattle.std.specs.Prelude.{ℕ, Bool, cond, ltb}
use Rattle.model.specs.Days.{Event, Arrival, Cancellation}

-- 12: not a stop of n; 16: it arrives and is live; 17: it is cancelled and is not; 0 where the event is accepted
abbrev pub own_refusal : Event → ℕ → Bool → ℕ
own_refusal (Arrival s) n live = cond (ltb s n) (cond live 16 0) 12
own_refusal (Cancellation s) n live = cond (ltb s n) (cond live 0 17) 12
