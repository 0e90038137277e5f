-- How long the loop waits, and what ends a wait. calloop too requests the lesser of its timeout and the first deadline.
-- After an interruption it waits again, but subtracts the time since the start from what was left by then, and if nothing
-- is left it returns without the timers that are due; here the time that is left is counted from the start each time.
use Rattle.std.specs.Prelude.{
  ◌≡◌,
  ℕ,
  ◌+◌,
  ◌-◌,
  min,
  List,
  [],
  ◌∷◌,
  Bool,
  false,
  ◌||◌,
  nat_eq,
  Option,
  Some,
  None,
  Result,
  Ok,
  Err,
  if◌then◌else◌,
  MatchBool,
}
use Rattle.std.specs.declared.io.Error.{Error as Cause}
use Rattle.std.specs.declared.io.ErrorKind.TheVariants.{Interrupted}
use Rattle.std.specs.IoError.{error_kind}
use Rattle.calloop_slots.specs.declared.wheel.Entry.{Entry}
use Rattle.calloop_poll.specs.sys.Batches.{ArePosted}
use Rattle.calloop_wake.specs.Watches.{with_note}
use Rattle.calloop_wake.specs.declared.watch.Watch.{Watch}
use Rattle.calloop_wake.specs.declared.notes.Note.TheVariants.{Looked}
use Rattle.calloop_poll.specs.declared.sys.Readiness.{Readiness}
use Rattle.calloop_poll.specs.sys.Pollers.{Outside, faults_of}
use Rattle.calloop_poll.specs.sys.Polls.{PollView, with_new_poller, with_watch, after_gather, is_filled}

-- what is left of the caller's timeout, counted from the start; differences stop at zero
abbrev pub time_left : (timeout : Option ℕ) → (start now : ℕ) → Option ℕ
time_left None start now = None
time_left (Some time) start now = Some (time - (now - start))

abbrev pub time_to_first : List Entry → (now : ℕ) → Option ℕ
time_to_first [] now = None
time_to_first (e ∷ es) now = Some (e.deadline.nanos - now)

abbrev pub lesser : Option ℕ → Option ℕ → Option ℕ
lesser None b = b
lesser (Some a) None = Some a
lesser (Some a) (Some b) = Some (min a b)

-- zero if an event was left over or the look at the board found a posted key, else the lesser of what is left of the
-- caller's timeout and the time to the first deadline; no limit without either
abbrev pub asked_for : {P : Type 0} → PollView P → (posted : Bool) → (timeout : Option ℕ) → (start now : ℕ) → Option ℕ
asked_for v posted timeout start now =
    if is_filled v.batch || posted then Some 0
    else lesser (time_left timeout start now) (time_to_first v.deadlines.entries now)

abbrev pub is_zero : Option ℕ → Bool
is_zero None = false
is_zero (Some time) = nat_eq time 0

abbrev pub IsInterruption : Cause → Type 0
IsInterruption cause = error_kind cause ≡ Interrupted

-- an interrupted wait: its error, its events (none of which is handed out), the poller then, the moment that was read
-- after it, and whether the look at the board then found a posted key
pub record Interruption (P : Type 0) : Type 0 where
  pub cause : Cause
  pub given : List (ℕ × Readiness)
  pub waited : P
  pub now : ℕ
  pub read : P
  pub posted : Bool

-- with this wait requested first, and with these interruptions: the moment of the gathering or a fault, the events, and
-- the poller then. The clock is read after each interruption and after the last result. After an interruption the board
-- is looked at and the wait requested anew; it counts as a wait without events if nothing is left to wait for.
abbrev pub Waits : {P : Type 0} → Outside P → PollView P → (timeout : Option ℕ) → (start : ℕ) → (asked : Option ℕ) → P
    → List (Interruption P) → Result ℕ Cause → List (ℕ × Readiness) → P → Type 0
Waits {P} O v timeout start asked p [] (Ok later) given q =
    (w : P) × O.waits p asked (Ok tt) given w × O.reads w later q
Waits O v timeout start asked p [] (Err cause) given q = O.waits p asked (Err cause) given q × (¬ IsInterruption cause)
Waits O v timeout start asked p (i ∷ is) answer given q =
    O.waits p asked (Err i.cause) i.given i.waited × IsInterruption i.cause × O.reads i.waited i.now i.read
    × MatchBool (is_zero (asked_for v i.posted timeout start i.now))
    ((is ≡ []) × (answer ≡ Ok i.now) × (given ≡ []) × (q ≡ i.read))
    (Waits O v timeout start (asked_for v i.posted timeout start i.now) i.read is answer given q)

-- the watch after a look for each interruption
abbrev pub after_looks : {P : Type 0} → List (Interruption P) → Watch → Watch
after_looks [] w = w
after_looks (i ∷ is) w = after_looks is (with_note (Looked i.posted) w)

-- a whole wait: the clock is read once at the start, and the board is looked at; the watch notes this look and another for
-- each interruption, and no more; a fault adds 1 to the poller's count, and nothing else does
abbrev pub Waited : {P : Type 0} → Outside P → PollView P → (timeout : Option ℕ) → Result ℕ Cause → List (ℕ × Readiness)
    → P → Watch → Type 0
Waited {P} O v timeout answer given q w =
    (start : ℕ) × (p : P) × O.reads v.poller start p × (posted : Bool) × (interruptions : List (Interruption P))
    × Waits O v timeout start (asked_for v posted timeout start start) p interruptions answer given q
    × (w ≡ after_looks interruptions (with_note (Looked posted) v.watch)) × (O.faults q ≡ O.faults v.poller + faults_of answer)

-- a wait and, if it had no fault, the gathering, of the keys that the board then returns, ascending; calloop's Poll::poll,
-- and the loop around it in dispatch_events
abbrev pub Polled : {P : Type 0} → Outside P → (timeout : Option ℕ) → Result (Unit {0}) Cause → PollView P → PollView P
    → Type 0
Polled {P} O timeout (Ok u) v v' =
    (now : ℕ) × (given : List (ℕ × Readiness)) × (p : P) × (w : Watch) × Waited O v timeout (Ok now) given p w
    × (posted : List ℕ) × ArePosted v.places posted × (v' ≡ after_gather posted given now (with_watch w (with_new_poller p v)))
Polled {P} O timeout (Err cause) v v' =
    (given : List (ℕ × Readiness)) × (p : P) × (w : Watch) × Waited O v timeout (Err cause) given p w
    × (v' ≡ with_watch w (with_new_poller p v))
