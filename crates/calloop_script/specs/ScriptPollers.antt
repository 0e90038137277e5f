-- What a scripted poller's calls do: a tool for tests and traces, which calloop lacks.
use Rattle.std.specs.Prelude.{
  ◌≡◌,
  ℕ,
  ℤ,
  ◌+◌,
  ◌-◌,
  ◌^◌,
  ◌++◌,
  ◌⊎◌,
  min,
  false,
  List,
  [],
  ◌∷◌,
  Option,
  Some,
  None,
  Result,
  Ok,
  Err,
  vec_capacity,
}
use Rattle.std.specs.declared.io.Error.{Error as IoError}
use Rattle.std.specs.IoError.{error_kind}
use Rattle.std.specs.declared.io.ErrorKind.TheVariants.{Interrupted, Other, OutOfMemory}
use Rattle.std.specs.declared.time.Duration.{Duration}
use Rattle.calloop_poll.specs.declared.sys.Readiness.{Readiness}
use Rattle.calloop_script.specs.declared.ScriptAnswer.{ScriptAnswer}
use Rattle.calloop_script.specs.declared.ScriptEnd.{ScriptEnd}
use Rattle.calloop_script.specs.declared.ScriptEnd.TheVariants.{Events, Interrupted as Interruption, Fault}
use Rattle.calloop_script.specs.declared.ScriptPoller.{ScriptPoller}
use Rattle.calloop_script.specs.declared.calls.ScriptCall.{ScriptCall}
use Rattle.calloop_poll.specs.sys.Pollers.{Outside, Sockets, nanos_of}
use Rattle.calloop_script.specs.ScriptCalls.{shown_call, kind_of, is_to_fail, with_failing, CallAnswered}
use Rattle.calloop_script.specs.Scripts.{kept_waits}

-- the clock after a wait with no answer left
abbrev pub clock_after : ℕ → (asked : Option ℕ) → ℕ
clock_after moment None = moment
clock_after moment (Some nanos) = min (moment + nanos) (2 ^ 64 - 1)

-- the result and the events of a wait, by how its script ends it
abbrev pub Ended : ScriptEnd → Result (Unit {0}) IoError → (given : List (ℕ × Readiness)) → Type 0
Ended (Events events) answer given = (answer ≡ Ok tt) × (given ≡ events.events.items)
Ended Interruption answer given =
    (cause : IoError) × (answer ≡ Err cause) × (error_kind cause ≡ Interrupted) × (given ≡ [])
Ended Fault answer given = (cause : IoError) × (answer ≡ Err cause) × (error_kind cause ≡ Other) × (given ≡ [])

-- the result and the events of a wait, the moment after it and the answers that are left, by the answers that there
-- were
abbrev pub WaitAnswered : List ScriptAnswer → ℕ → (asked : Option ℕ) → Result (Unit {0}) IoError
    → (given : List (ℕ × Readiness)) → ℕ → List ScriptAnswer → Type 0
WaitAnswered [] moment asked answer given after left =
    (answer ≡ Ok tt) × (given ≡ []) × (after ≡ clock_after moment asked) × (left ≡ [])
WaitAnswered (first ∷ answers) moment asked answer given after left =
    Ended first.end answer given × (after ≡ first.moment.nanos) × (left ≡ answers)

-- one scripted wait; the poller notes how long it was to be
pub record ScriptWaits (p : ScriptPoller) (asked : Option ℕ) (answer : Result (Unit {0}) IoError)
    (given : List (ℕ × Readiness)) (q : ScriptPoller) : Type 0 where
  pub answered : WaitAnswered p.answers.items p.moment.nanos asked answer given q.moment.nanos q.answers.items
  pub timeout : Option Duration
  pub asked_is : nanos_of timeout ≡ asked
  pub noted : q.waits.items ≡ kept_waits p.waits.items (vec_capacity p.waits) timeout
  pub room : vec_capacity q.waits ≡ vec_capacity p.waits
  pub calls : q.calls ≡ p.calls
  pub failing : q.failing ≡ p.failing
  pub shown : q.shown ≡ p.shown
  pub signal : q.signal ≡ p.signal

-- the call is noted, also if it fails as it was told to; or there is no memory to note it, which is a fault too
abbrev pub IsNoted : ScriptPoller → ScriptCall → Result (Unit {0}) IoError → ScriptPoller → Type 0
IsNoted p call answer q =
    ((q.calls.items ≡ p.calls.items ++ call ∷ []) × (q.failing ≡ with_failing (kind_of call) false p.failing)
    × CallAnswered (is_to_fail (kind_of call) p.failing) answer)
    ⊎ ((q.calls.items ≡ p.calls.items) × (q.failing ≡ p.failing)
    × (cause : IoError) × (answer ≡ Err cause) × (error_kind cause ≡ OutOfMemory))

-- one call for a socket
pub record ScriptCalled (p : ScriptPoller) (call : ScriptCall) (answer : Result (Unit {0}) IoError)
    (q : ScriptPoller) : Type 0 where
  pub noted : IsNoted p call answer q
  pub moment : q.moment ≡ p.moment
  pub answers : q.answers ≡ p.answers
  pub waits : q.waits ≡ p.waits
  pub shown : q.shown ≡ p.shown
  pub signal : q.signal ≡ p.signal

abbrev pub script_sockets : Sockets ScriptPoller
script_sockets p fd call answer q = ScriptCalled p (shown_call call fd) answer q

abbrev pub script_outside : Outside ScriptPoller
script_outside =
    record {
      reads = λ p now q. (now ≡ p.moment.nanos) × (q ≡ p);
      waits = λ p asked answer given q. ScriptWaits p asked answer given q;
      calls = λ p call answer q. (number : ℤ) × ScriptCalled p (shown_call call number) answer q;
      faults = λ p. p.faults.count;
    }
