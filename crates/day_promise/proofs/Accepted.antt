-- A job on which some event is accepted is within limits, so the promise of a day holds for it.
use mathlib.Core.Path.{◌≡◌, refl}
use mathlib.Core.Bool.{true}
use mathlib.Core.List.{List}
use Rattle.model.specs.Lists.{member}
use Rattle.model.specs.Job.{Job}
use Rattle.model.specs.Refusals.{Arguments, Call, Arrive, Cancel, asked, refusal}
use Rattle.model.specs.Days.{Event, Arrival, Cancellation, Day, call_made, arguments_of, day_after, WithinLimits, DayPromise}
use Rattle.call_refusals.proofs.Passed.{none-applies, places-passed, legs-passed}
use Rattle.day_promise.proofs.Theorem.{day}

-- of a call that makes these tests
within : (c : Call) (A : Arguments) → refusal c A ≡ 0 → member 1 (asked c) ≡ true → member 2 (asked c) ≡ true → member 3 (asked c) ≡ true
    → member 6 (asked c) ≡ true → member 7 (asked c) ≡ true → member 8 (asked c) ≡ true → WithinLimits A.job
within c A e m₁ m₂ m₃ m₆ m₇ m₈ =
    record {
      vehicles = none-applies c A e 1 m₁;
      stops = none-applies c A e 2 m₂;
      table = none-applies c A e 3 m₃;
      locations = places-passed c A e m₆;
      distances = legs-passed c A e m₇;
      prices = none-applies c A e 8 m₈;
    }

module _ (J : Job) (D : Day) where
  pub accepted-within : (e : Event) → refusal (call_made e) (arguments_of J D e) ≡ 0 → WithinLimits J
  accepted-within (Arrival s) h = within Arrive (arguments_of J D (Arrival s)) h refl refl refl refl refl refl
  accepted-within (Cancellation s) h = within Cancel (arguments_of J D (Cancellation s)) h refl refl refl refl refl refl

  pub accepted-day : (e : Event) → refusal (call_made e) (arguments_of J D e) ≡ 0 → (es : List Event) → DayPromise J es (day_after J es)
  accepted-day e h es = day J (accepted-within e h) es
