-- Runs of scripts, and small lists of calls, of which some are no script's.
use Rattle.std.specs.Prelude.{ℕ, List, [], ◌∷◌, Option, None, Some}
use Rattle.calloop_slots.specs.declared.token.RegistrationToken.{RegistrationToken}
use Rattle.calloop_sources.specs.declared.timer.Registration.{Registration}
use Rattle.calloop_sources.specs.Timers.{registered_as}
use Rattle.calloop_script.specs.declared.ScriptPoller.{ScriptPoller}
use Rattle.calloop_loop.specs.declared.LoopCall.TheVariants.{Insert, Remove, Exchange, Dispatch}
use Rattle.calloop_laws.specs.EveryRun.{LoopRun}
use Rattle.calloop_laws.specs.Laws.{IsLedgerOf}
use Rattle.looptrace.specs.Sources.{Source, timer_in}
use Rattle.looptrace.specs.Runs.{new_timer}
use Rattle.looptrace.specs.InTime.{ScriptCall, AllScripted}

abbrev pub ScriptRun : Type 0
ScriptRun = LoopRun Source (Unit {0}) ScriptPoller (Option (List ℕ))

-- of a run by a script's calls alone: each call of a timer belongs to an arming of its own, gathered in time, and is the only one for it
abbrev pub IsInTime : ScriptRun → Type 0
IsInTime r = AllScripted r.calls → IsLedgerOf r.ended.ledger r.ended.poll

-- a timer is inserted, and dispatched
abbrev pub inserts_a_timer : (name : List ℕ) → List ScriptCall
inserts_a_timer name = Insert (new_timer name 5) ∷ Dispatch None None ∷ []

-- the second call puts another source in a slot
abbrev pub exchanges_a_source : RegistrationToken → Source → List ScriptCall
exchanges_a_source token source = Remove token ∷ Exchange token source ∷ []

-- a timer that is registered
abbrev pub registered_timer : (name : List ℕ) → Registration → Source
registered_timer name registration =
    timer_in (record {
      source = registered_as registration (Some (record { nanos = 5 }));
      callback = record { name = name };
    })
