-- Timers whose callbacks ask for further ones.
use Rattle.std.specs.Prelude.{◌≡◌, ℕ, List, [], ◌∷◌, Option}
use Rattle.calloop_slots.specs.declared.error.Error.TheVariants.{OutOfMemory}
use Rattle.calloop_slots.specs.declared.wheel.Instant.{Instant}
use Rattle.calloop_sources.specs.declared.sources.dispatch.Dispatcher.{Dispatcher}
use Rattle.calloop_sources.specs.declared.timer.Timer.{Timer}
use Rattle.calloop_sources.specs.sources.Deeds.{Lent}
use Rattle.calloop_sources.specs.sources.Meanings.{Meaning, with_callback, seen_as}
use Rattle.calloop_sources.specs.Timers.{timer_meaning, fresh_timer}
use Rattle.calloop_loop.specs.declared.Sources.{Sources}
use Rattle.calloop_loop.specs.declared.asks.Request.{Request}
use Rattle.calloop_loop.specs.declared.asks.Request.TheVariants.{Insert}
use Rattle.calloop_loop.specs.Askings.{Asks, AskStep, Write, Take, Reaches, Runs, asks_after}
use Rattle.calloop_loop.specs.Choices.{with_data}
use Rattle.timer_chain.specs.declared.Again.{Again}

-- what is asked for, if it is an insertion, is one of a timer that was never registered
abbrev pub IsOfTimer : {D I F : Type 0} → (Dispatcher Timer F → D) → Request D I → Type 0
IsOfTimer {D} {I} {F} held (Insert d) =
    (at : Option Instant) × (callback : F) × (d ≡ held (record { source = fresh_timer at; callback = callback }))
IsOfTimer held request = Unit {0}

abbrev pub AreOfTimers : {D I F : Type 0} → (Dispatcher Timer F → D) → List (AskStep D I) → Type 0
AreOfTimers held [] = Unit {0}
AreOfTimers held (Write request ∷ steps) = IsOfTimer held request × AreOfTimers held steps
AreOfTimers held (Take ticket ∷ steps) = AreOfTimers held steps

-- requests become these by such requests
abbrev pub AsksForTimers : {D I F : Type 0} → (Dispatcher Timer F → D) → Asks D I → Asks D I → Type 0
AsksForTimers {D} {I} held q r = (steps : List (AskStep D I)) × AreOfTimers held steps × (r ≡ asks_after q steps)

abbrev pub Chain : Type 0
Chain = Sources (Dispatcher Timer Again) ℕ (Unit {0})

abbrev pub in_chain : Dispatcher Timer Again → Chain
in_chain d = with_data d

-- a timer of the chain, whose callback asks for such timers alone
abbrev pub chain_meaning : {P : Type 0} → Meaning Chain P (Lent ℕ (Asks Chain (Unit {0})))
chain_meaning =
    seen_as (λ s. s.held)
    (with_callback timer_meaning (λ f e m x q t g n y r. AsksForTimers in_chain q r) Reaches (λ cause e. e ≡ OutOfMemory))

-- no idle is asked for
abbrev pub no_idles : Runs Chain (Unit {0}) ℕ
no_idles idle x q y r = (y ≡ x) × (r ≡ q)
