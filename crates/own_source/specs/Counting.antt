-- What the source of numbers means, beyond that it does nothing to `Poll`.
use Rattle.std.specs.Prelude.{◌≡◌, ◌+◌, ◌-◌, ◌^◌, min, ℕ, [], ◌∷◌}
use Rattle.calloop_poll.specs.sys.Polls.{PollView}
use Rattle.calloop_sources.specs.sources.Deeds.{Deed, Registered, Reregistered, Unregistered, Turned, Slept, Noticed, Heard}
use Rattle.own_source.specs.declared.numbers.Numbers.{Numbers}
use Rattle.calloop_slots.specs.declared.error.Error.{Error}

-- each wait brings the next number, and each turn hands it out, in one call; nothing else changes it
abbrev pub HandsOut : {P : Type 0}
    → Numbers → PollView P → Deed (Heard ℕ (Unit {0}) (Unit {0}) Error) → Numbers → Type 0
HandsOut s v (Registered f answer g) t = t.number ≡ s.number
HandsOut s v (Reregistered f answer g) t = t.number ≡ s.number
HandsOut s v (Unregistered answer) t = t.number ≡ s.number
HandsOut s v (Slept given answer) t = t.number ≡ min (s.number + 1) (2 ^ 64 - 1)
HandsOut s v (Noticed events) t = t.number ≡ s.number
HandsOut s v (Turned readiness token turn) t =
    (turn.calls ≡ record { event = s.number; before = tt; after = tt; answer = tt } ∷ []) × (t.number ≡ s.number)
