-- The meaning of a script's sources.
use Rattle.std.specs.Prelude.{◌≡◌, ℕ, List, Option}
use Rattle.calloop_slots.specs.declared.error.Error.TheVariants.{OutOfMemory}
use Rattle.calloop_slots.specs.declared.wheel.Instant.{Instant}
use Rattle.calloop_wake.specs.declared.Tally.{Tally}
use Rattle.calloop_sources.specs.declared.sources.dispatch.Dispatcher.{Dispatcher}
use Rattle.calloop_sources.specs.declared.timer.Timer.{Timer}
use Rattle.calloop_sources.specs.declared.timer.TimeoutAction.{TimeoutAction}
use Rattle.calloop_sources.specs.declared.timer.TimeoutAction.TheVariants.{Drop}
use Rattle.calloop_sources.specs.sources.Deeds.{Lent}
use Rattle.calloop_sources.specs.sources.Meanings.{Meaning, with_callback, one_of, seen_as}
use Rattle.calloop_sources.specs.declared.sources.choice.OneOf.{OneOf}
use Rattle.calloop_sources.specs.declared.sources.choice.OneOf.TheVariants.{First, Other}
use Rattle.calloop_loop.specs.declared.Sources.{Sources}
use Rattle.calloop_loop.specs.Askings.{Asks, Reaches, Runs}
use Rattle.calloop_loop.specs.Choices.{with_data}
use Rattle.calloop_sources.specs.Timers.{timer_meaning}
use Rattle.calloop_ends.specs.ping.Pings.{ping_meaning}
use Rattle.looptrace.specs.declared.source.Teller.{Teller}
use Rattle.looptrace.specs.declared.source.Alarm.{Alarm}
use Rattle.looptrace.specs.Says.{Tells}
use Rattle.looptrace.specs.Texts.{call_text, alarm_text}

-- a teller says its name, stays as it is, and asks for nothing
abbrev pub tells : {Q : Type 0} → Teller → Unit {0} → Unit {0} → Option (List ℕ) → Q → Unit {0}
    → Teller → Unit {0} → Option (List ℕ) → Q → Type 0
tells teller event metadata said asked answer after metadata' said' asked' =
    (after ≡ teller) × Tells (call_text teller.name) said said' × (asked' ≡ asked)

-- an alarm says its name and the deadline, stays as it is, asks for nothing, and lets its timer leave the loop
abbrev pub tells_deadline : {Q : Type 0} → Alarm → Instant → Unit {0} → Option (List ℕ) → Q → TimeoutAction
    → Alarm → Unit {0} → Option (List ℕ) → Q → Type 0
tells_deadline alarm deadline metadata said asked answer after metadata' said' asked' =
    (answer ≡ Drop) × (after ≡ alarm) × Tells (alarm_text alarm.name deadline.nanos) said said' × (asked' ≡ asked)

-- the sources of a script: a ping with its teller, or a timer with its alarm
abbrev pub Source : Type 0
Source = Sources (OneOf (Dispatcher Tally Teller) (Dispatcher Timer Alarm)) (Option (List ℕ)) (Unit {0})

abbrev pub ping_in : Dispatcher Tally Teller → Source
ping_in d = with_data (First d)

abbrev pub timer_in : Dispatcher Timer Alarm → Source
timer_in d = with_data (Other d)

abbrev pub source_meaning : {P : Type 0} → Meaning Source P (Lent (Option (List ℕ)) (Asks Source (Unit {0})))
source_meaning =
    seen_as (λ s. s.held)
    (one_of (with_callback ping_meaning tells Reaches (λ cause e. e ≡ OutOfMemory))
    (with_callback timer_meaning tells_deadline Reaches (λ cause e. e ≡ OutOfMemory)))

-- a script asks for no idle
abbrev pub no_idles : Runs Source (Unit {0}) (Option (List ℕ))
no_idles idle said asked said' asked' = (said' ≡ said) × (asked' ≡ asked)
