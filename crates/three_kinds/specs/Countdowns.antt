-- What the countdown means: each turn calls back once.
use Rattle.std.specs.Prelude.{◌≡◌, [], ◌∷◌}
use Rattle.calloop_poll.specs.sys.Polls.{PollView}
use Rattle.calloop_sources.specs.sources.Deeds.{Deed, Registered, Reregistered, Unregistered, Turned, Slept, Noticed, Heard}
use Rattle.three_kinds.specs.declared.countdown.Countdown.{Countdown}
use Rattle.calloop_slots.specs.declared.error.Error.{Error}

abbrev pub CallsOnce : {P : Type 0} → Countdown → PollView P
    → Deed (Heard (Unit {0}) (Unit {0}) (Unit {0}) Error) → Countdown → Type 0
CallsOnce s v (Registered f answer g) t = Unit {0}
CallsOnce s v (Reregistered f answer g) t = Unit {0}
CallsOnce s v (Unregistered answer) t = Unit {0}
CallsOnce s v (Slept given answer) t = Unit {0}
CallsOnce s v (Noticed events) t = Unit {0}
CallsOnce s v (Turned readiness token turn) t =
    turn.calls ≡ record { event = tt; before = tt; after = tt; answer = tt } ∷ []
