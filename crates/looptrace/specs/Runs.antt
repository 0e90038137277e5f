-- What a line of a script does with the loop, and what it prints: each line is a list of cases of the loop's machine, and its
-- text is their answers. The requested waits are those that the scripted poller notes.
use Rattle.std.specs.Prelude.{◌≡◌, ℕ, ◌-◌, ◌^◌, ◌≤◌, ◌<◌, ◌&&◌, ◌||◌, min, nat_lt, Bool, true, false, if◌then◌else◌}
use Rattle.std.specs.Prelude.{List, [], ◌∷◌, ◌++◌, length, codes, vec_capacity}
use Rattle.std.specs.Prelude.{Option, Some, None, IsSome, Result, Ok, Err}
use Rattle.std.specs.Option.{option_map}
use Rattle.std.specs.Duration.{as_nanos}
use Rattle.std.specs.declared.time.Duration.{Duration}
use Rattle.calloop_slots.specs.Widths.{most_slots, versions}
use Rattle.calloop_slots.specs.declared.error.Error.{Error}
use Rattle.calloop_slots.specs.declared.error.Error.TheVariants.{InvalidToken, IoError, OtherError, OutOfMemory}
use Rattle.calloop_slots.specs.declared.error.Error.TheVariants.{
  TooManySources,
  TooManyTokens,
  TooManyTimers,
  TooManyTickets,
  OwnTurn,
  NoRendezvous,
}
use Rattle.calloop_slots.specs.declared.error.InsertError.{InsertError}
use Rattle.calloop_slots.specs.declared.token.RegistrationToken.{RegistrationToken}
use Rattle.logbook.specs.Pages.{Book}
use Rattle.calloop_slots.specs.declared.wheel.Instant.{Instant}
use Rattle.calloop_wake.specs.declared.Tally.{Tally}
use Rattle.calloop_poll.specs.declared.sys.Readiness.{Readiness}
use Rattle.calloop_script.specs.declared.ScriptAnswer.{ScriptAnswer}
use Rattle.calloop_script.specs.declared.ScriptEvents.{ScriptEvents}
use Rattle.calloop_script.specs.declared.ScriptEnd.TheVariants.{Events, Fault as FaultEnd}
use Rattle.calloop_script.specs.declared.ScriptPoller.{ScriptPoller}
use Rattle.calloop_poll.specs.sys.Pollers.{nanos_of, events_per_wait}
use Rattle.calloop_poll.specs.sys.Polls.{is_filled}
use Rattle.calloop_script.specs.ScriptPollers.{script_outside}
use Rattle.calloop_sources.specs.Timers.{fresh_timer}
use Rattle.calloop_loop.specs.declared.LoopCall.{LoopCall}
use Rattle.calloop_loop.specs.declared.LoopCall.TheVariants.{Insert, Remove as RemoveCall}
use Rattle.calloop_loop.specs.declared.LoopCall.TheVariants.{Dispatch as DispatchCall, Poller as NewPoller}
use Rattle.calloop_loop.specs.declared.LoopAnswer.{LoopAnswer}
use Rattle.calloop_loop.specs.declared.LoopAnswer.TheVariants.{Inserted, Removed, Dispatched, Poller as OldPoller}
use Rattle.calloop_loop.specs.Machine.{World, View, IsNew, visible, view_of}
use Rattle.calloop_loop.specs.Rules.{Case, Did}
use Rattle.looptrace.specs.declared.command.Command.{Command}
use Rattle.looptrace.specs.declared.command.Command.TheVariants.{Nothing, Ping, Ring, Close, Remove}
use Rattle.looptrace.specs.declared.command.Command.TheVariants.{Answer as Event, Timer, Clock, Fault, Dispatch}
use Rattle.calloop_sources.specs.declared.sources.choice.OneOf.{OneOf}
use Rattle.calloop_sources.specs.declared.sources.choice.OneOf.TheVariants.{First, Other}
use Rattle.looptrace.specs.declared.runner.PendingAnswer.{PendingAnswer}
use Rattle.looptrace.specs.declared.runner.ScriptLoop.{ScriptLoop}
use Rattle.looptrace.specs.Named.{Named, is_taken, ping_named, with_source, without_ping}
use Rattle.looptrace.specs.Lines.{lines_of}
use Rattle.looptrace.specs.Traces.{Written, Writes}
use Rattle.looptrace.specs.Commands.{command_of}
use Rattle.looptrace.specs.Texts.{insert_text, wait_text, refused_text}
use Rattle.calloop_sources.specs.declared.sources.dispatch.Dispatcher.{Dispatcher}
use Rattle.calloop_sources.specs.declared.timer.Timer.{Timer as TimerSource}
use Rattle.looptrace.specs.declared.source.Teller.{Teller}
use Rattle.looptrace.specs.declared.source.Alarm.{Alarm}
use Rattle.looptrace.specs.Sources.{Source, timer_in, source_meaning, no_idles}

-- the answer for the next wait: what the clock showed at its last event, and its events
pub record Pending : Type 0 where
  pub moment : Instant
  pub events : List (ℕ × Readiness)

abbrev pub pending_of : PendingAnswer → Pending
pending_of p = record { moment = p.moment; events = p.events.events.items }

-- what the loop holds, the sources that were made, whether the next wait is to fail, and the pending answer
pub record State : Type 0 where
  pub loop : View Source (Unit {0}) ScriptPoller
  pub sources : List Named
  pub fault : Bool
  pub pending : Option Pending

abbrev pub state_of : {R : Type 0} → ScriptLoop R → State
state_of s =
    record {
      loop = view_of s.event_loop;
      sources = s.sources;
      fault = s.fault;
      pending = option_map pending_of s.pending;
    }

-- a machine to which nothing has happened agrees, over a poller with the clock at 0 and without answers
pub record IsStart (s : State) : Type 0 where
  pub world : World Source (Unit {0}) ScriptPoller
  pub new : IsNew world
  pub agrees : visible world ≡ s.loop
  pub moment : s.loop.poll.poller.moment.nanos ≡ 0
  pub answers : s.loop.poll.poller.answers.items ≡ []
  pub sources : s.sources ≡ []
  pub fault : s.fault ≡ false
  pub pending : s.pending ≡ None

-- a call on the loop is a case of its machine
abbrev pub Calls : LoopCall Source ScriptPoller (Option (List ℕ)) (Unit {0})
    → LoopAnswer Source ScriptPoller (Option (List ℕ)) (Unit {0})
    → View Source (Unit {0}) ScriptPoller → View Source (Unit {0}) ScriptPoller → Type 0
Calls call answer old new = Did (Case source_meaning no_idles script_outside call answer) old new

-- the names of the errors
abbrev pub word_of : Error → List ℕ
word_of InvalidToken = codes "InvalidToken"
word_of (IoError cause) = codes "IoError"
word_of (OtherError cause) = codes "OtherError"
word_of OutOfMemory = codes "OutOfMemory"
word_of TooManySources = codes "TooManySources"
word_of TooManyTokens = codes "TooManyTokens"
word_of TooManyTimers = codes "TooManyTimers"
word_of TooManyTickets = codes "TooManyTickets"
word_of OwnTurn = codes "OwnTurn"
word_of NoRendezvous = codes "NoRendezvous"

abbrev pub answer_text : Result (Unit {0}) Error → List ℕ
answer_text (Ok u) = []
answer_text (Err error) = refused_text (word_of error)

-- a requested wait in nanoseconds, at most 2^64 - 1
abbrev pub nanos_in : Option Duration → Option ℕ
nanos_in None = None
nanos_in (Some time) = Some (min (as_nanos time) (2 ^ 64 - 1))

abbrev pub waits_text : List (Option Duration) → List ℕ
waits_text [] = []
waits_text (asked ∷ later) = wait_text (nanos_in asked) ++ waits_text later

-- an insertion prints its token, and its name is kept with its ping; if it fails, the name isn't kept
abbrev pub InsertSays : {S : Type 0} → List ℕ → (ping : Option Book) → Result RegistrationToken (InsertError S)
    → List Named → List Named → List ℕ → Type 0
InsertSays name ping (Ok token) before after said =
    (after ≡ with_source name ping before) × (said ≡ insert_text name token.slot token.version)
InsertSays name ping (Err refused) before after said = (after ≡ before) × (said ≡ refused_text (word_of refused.error))

-- a source that was made so is inserted under a name that no source has yet; with a taken name the line can't be read
abbrev pub InsertLine : State → List ℕ → (made : Source → Option Book → Type 0)
    → Option (State × List ℕ) → Type 0
InsertLine s name made None = is_taken name s.sources ≡ true
InsertLine s name made (Some (t, said)) =
    (is_taken name s.sources ≡ false) × (source : Source) × (ping : Option Book) × made source ping
    × (answer : Result RegistrationToken (InsertError Source))
    × Calls (Insert source) (Inserted answer) s.loop t.loop
    × InsertSays name ping answer s.sources t.sources said × (t.fault ≡ s.fault) × (t.pending ≡ s.pending)

-- a source of a cell that no turn took a ring of, which isn't registered yet, with a callback that says its name, and the cell's
-- ping
abbrev pub IsPingOf : List ℕ → OneOf (Dispatcher Tally Teller) (Dispatcher TimerSource Alarm)
    → Option Book → Type 0
IsPingOf name (First d) ping =
    (d.source.key ≡ None) × (d.source.number ≡ 0) × (d.callback ≡ record { name = name })
    × (ping ≡ Some d.source.name)
IsPingOf name (Other d) ping = ⊥

abbrev pub IsNewPing : List ℕ → Source → Option Book → Type 0
IsNewPing name s ping = IsPingOf name s.held ping

-- a timer with a deadline, with a callback that says its name and the deadline
abbrev pub new_timer : List ℕ → (deadline : ℕ) → Source
new_timer name deadline =
    timer_in (record { source = fresh_timer (Some (record { nanos = deadline })); callback = record { name = name } })

-- such a timer, without a ping
abbrev pub IsNewTimer : List ℕ → (deadline : ℕ) → Source → Option Book → Type 0
IsNewTimer name deadline source ping = (source ≡ new_timer name deadline) × (ping ≡ None)

-- an open ping of this name is rung, of which nothing is seen here and which prints nothing; if there is none, the line can't be
-- read
abbrev pub RingLine : State → List ℕ → Option (State × List ℕ) → Type 0
RingLine s name None = ping_named name s.sources ≡ None
RingLine s name (Some (t, said)) = IsSome (ping_named name s.sources) × (t ≡ s) × (said ≡ [])

-- the open ping of this name is dropped, which prints nothing; if there is none, the line can't be read
abbrev pub CloseLine : State → List ℕ → Option (State × List ℕ) → Type 0
CloseLine s name None = ping_named name s.sources ≡ None
CloseLine s name (Some (t, said)) =
    IsSome (ping_named name s.sources) × (t ≡ record s { sources = without_ping name s.sources }) × (said ≡ [])

-- the token of these numbers, if a token can hold them
abbrev pub token_with : (slot version : ℕ) → Option RegistrationToken
token_with slot version =
    if nat_lt slot most_slots && nat_lt version versions then Some (record { slot = slot; version = version }) else None

abbrev pub removed_text : Option Source → List ℕ
removed_text None = refused_text (word_of InvalidToken)
removed_text (Some source) = []

-- a removal by a token, if there is one; the ping of what is removed stays open
abbrev pub RemoveOf : State → Option RegistrationToken → State → List ℕ → Type 0
RemoveOf s None t said = (t ≡ s) × (said ≡ refused_text (word_of InvalidToken))
RemoveOf s (Some token) t said =
    (answer : Option Source) × Calls (RemoveCall token) (Removed answer) s.loop t.loop
    × (t.sources ≡ s.sources) × (t.fault ≡ s.fault) × (t.pending ≡ s.pending) × (said ≡ removed_text answer)

-- what the token of these numbers names is removed
abbrev pub RemoveLine : State → (slot version : ℕ) → State → List ℕ → Type 0
RemoveLine s slot version t said = RemoveOf s (token_with slot version) t said

-- a poller that shows another moment
abbrev pub with_moment : (moment : ℕ) → ScriptPoller → ScriptPoller
with_moment moment p = record p { moment = record { nanos = moment } }

-- the clock is set, and nothing else changes
pub record ClockLine (s : State) (moment : ℕ) (t : State) : Type 0 where
  pub changed : Calls (NewPoller (with_moment moment s.loop.poll.poller)) (OldPoller s.loop.poll.poller) s.loop t.loop
  pub sources : t.sources ≡ s.sources
  pub fault : t.fault ≡ s.fault
  pub pending : t.pending ≡ s.pending

abbrev pub events_of : Option Pending → List (ℕ × Readiness)
events_of None = []
events_of (Some pending) = pending.events

-- another event in the pending answer, whose moment is what the clock shows; a 1,025th can't be read
abbrev pub AnswerLine : State → (key : ℕ) → Readiness → Option (State × List ℕ) → Type 0
AnswerLine s key readiness None = events_per_wait ≤ length (events_of s.pending)
AnswerLine s key readiness (Some (t, said)) =
    (length (events_of s.pending) < events_per_wait)
    × (t ≡ record s {
      pending = Some (record {
        moment = s.loop.poll.poller.moment;
        events = events_of s.pending ++ (key, readiness) ∷ [];
      });
    }) × (said ≡ [])

-- The outcome of the next wait: a fault if one is asked for, at the moment that the clock shows, so that it leaves the clock
-- unmoved; else the pending answer.
abbrev pub NextAnswer : (fault : Bool) → Option Pending → (now : Instant) → List ScriptAnswer → Type 0
NextAnswer true pending now answers = answers ≡ record { moment = now; end = FaultEnd } ∷ []
NextAnswer false None now answers = answers ≡ []
NextAnswer false (Some pending) now answers =
    (events : ScriptEvents) × (events.events.items ≡ pending.events)
    × (answers ≡ record { moment = pending.moment; end = Events events } ∷ [])

-- the same poller with an empty list of requested waits, in which there is room for one, and with a script of just the outcome of
-- the next wait
pub record IsPrepared (fault : Bool) (pending : Option Pending) (p q : ScriptPoller) : Type 0 where
  pub same : q ≡ record p { answers = q.answers; waits = q.waits }
  pub answers : NextAnswer fault pending p.moment q.answers.items
  pub none : q.waits.items ≡ []
  pub room : 1 ≤ vec_capacity q.waits

-- the same poller without a script
pub record IsTakenBack (p q : ScriptPoller) : Type 0 where
  pub same : q ≡ record p { answers = q.answers }
  pub answers : q.answers.items ≡ []

-- If the script is unused after a dispatch, the dispatch failed before its wait, and what was pending stays so. Else the wait
-- took a fault, which only delays the answer, or the answer.
abbrev pub fault_after : (stands fault : Bool) → Bool
fault_after stands fault = stands && fault

abbrev pub pending_after : (stands fault : Bool) → Option Pending → Option Pending
pending_after stands fault pending = if stands || fault then pending else None

-- a dispatch over a poller that is ready for its wait, which is then without a script again; the text is the requested waits,
-- then what the callbacks said, then the error
pub record DispatchLine (s : State) (timeout : Option ℕ) (t : State) (said : List ℕ) : Type 0 where
  pub ready : ScriptPoller
  pub is_ready : IsPrepared s.fault s.pending s.loop.poll.poller ready
  pub before : View Source (Unit {0}) ScriptPoller
  pub lent : Calls (NewPoller ready) (OldPoller s.loop.poll.poller) s.loop before
  pub limit : Option Duration
  pub limit_is : nanos_of limit ≡ timeout
  pub answer : Result (Unit {0}) Error
  pub called : List ℕ
  pub after : View Source (Unit {0}) ScriptPoller
  pub dispatched : Calls (DispatchCall limit (Some [])) (Dispatched answer (Some called)) before after
  pub is_back : IsTakenBack after.poll.poller t.loop.poll.poller
  pub back : Calls (NewPoller t.loop.poll.poller) (OldPoller after.poll.poller) after t.loop
  pub sources : t.sources ≡ s.sources
  pub fault : t.fault ≡ fault_after (is_filled after.poll.poller.answers.items) s.fault
  pub pending : t.pending ≡ pending_after (is_filled after.poll.poller.answers.items) s.fault s.pending
  pub text : said ≡ (waits_text after.poll.poller.waits.items ++ called) ++ answer_text answer

-- what a command does, and what it prints; nothing if the line can't be read
abbrev pub Carried : State → Option Command → Option (State × List ℕ) → Type 0
Carried s None outcome = outcome ≡ None
Carried s (Some Nothing) outcome = outcome ≡ Some (s, [])
Carried s (Some (Ping name)) outcome = InsertLine s name (IsNewPing name) outcome
Carried s (Some (Ring name)) outcome = RingLine s name outcome
Carried s (Some (Close name)) outcome = CloseLine s name outcome
Carried s (Some (Remove slot version)) None = ⊥
Carried s (Some (Remove slot version)) (Some (t, said)) = RemoveLine s slot version t said
Carried s (Some (Event key readiness)) outcome = AnswerLine s key readiness outcome
Carried s (Some (Timer name deadline)) outcome = InsertLine s name (IsNewTimer name deadline) outcome
Carried s (Some (Clock moment)) None = ⊥
Carried s (Some (Clock moment)) (Some (t, said)) = ClockLine s moment t × (said ≡ [])
Carried s (Some Fault) outcome = outcome ≡ Some (record s { fault = true }, [])
Carried s (Some (Dispatch timeout)) None = ⊥
Carried s (Some (Dispatch timeout)) (Some (t, said)) = DispatchLine s timeout t said

abbrev pub trace_step : State → List ℕ → Option (State × List ℕ) → Type 0
trace_step s line outcome = Carried s (command_of line) outcome

-- the same of a loop
abbrev pub state_and_text : {R : Type 0} → ScriptLoop R × List ℕ → State × List ℕ
state_and_text p = (state_of p.0, p.1)

abbrev pub line_step : {R : Type 0} → ScriptLoop R → List ℕ → Option (ScriptLoop R × List ℕ) → Type 0
line_step s line outcome = trace_step (state_of s) line (option_map state_and_text outcome)

-- from a machine to which nothing has happened, the lines of a script may write this
abbrev pub MayWrite : List ℕ → Written → Type 0
MayWrite script w = (start : State) × IsStart start × Writes trace_step start 1 (lines_of script) w
