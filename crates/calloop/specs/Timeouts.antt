-- Futures that are ready at a moment. Calloop's, too, is a timer in a slot, whose token nobody else has.
use Rattle.std.specs.Prelude.{◌≡◌, ◌⊎◌, ℕ, nat_le, Bool, true, false, Option, Some, None, Result, Ok, Err, IfOk, IfErr}
use Rattle.std.specs.Arc.{arc_value}
use Rattle.calloop_slots.specs.declared.error.Error.{Error}
use Rattle.calloop_slots.specs.declared.error.Error.TheVariants.{OutOfMemory}
use Rattle.calloop_slots.specs.declared.error.InsertError.{InsertError}
use Rattle.calloop_slots.specs.declared.token.RegistrationToken.{RegistrationToken}
use Rattle.calloop_slots.specs.declared.wheel.Instant.{Instant}
use Rattle.calloop_sources.specs.declared.sources.dispatch.Dispatcher.{Dispatcher}
use Rattle.calloop_sources.specs.declared.sources.dispatch.Role.TheVariants.{Timeout}
use Rattle.calloop_sources.specs.declared.timer.Timer.{Timer}
use Rattle.calloop_sources.specs.declared.timer.TimeoutAction.{TimeoutAction}
use Rattle.calloop_sources.specs.declared.timer.TimerError.{TimerError}
use Rattle.calloop_sources.specs.sources.Deeds.{Lent}
use Rattle.calloop_sources.specs.sources.Calls.{Calling}
use Rattle.calloop_sources.specs.TimerKeeping.{timer_keeps}
use Rattle.calloop_sources.specs.sources.Lawful.{keeping_with_callback, asking_with_callback, failing_with_callback, memory_of_source}
use Rattle.calloop_sources.specs.sources.Lawful.{keeping_seen, keeping_in_role, asking_seen, failing_seen}
use Rattle.calloop_sources.specs.sources.Meanings.{Meaning, IsKeeping, IsAsking, FailsAsSource, with_callback, seen_as, in_role}
use Rattle.calloop_poll.specs.sys.Pollers.{Outside}
use Rattle.calloop_sources.specs.sources.Quiet.{IsQuietCall, IsQuiet, quiet_dispatcher, quiet_seen}
use Rattle.calloop_sources.specs.Timers.{fresh_timer, timer_meaning}
use Rattle.calloop_ends.specs.declared.futures.task.Poll.{Poll}
use Rattle.calloop_ends.specs.declared.futures.task.Poll.TheVariants.{Ready, Pending}
use Rattle.calloop_loop.specs.declared.LoopHandle.{LoopHandle}
use Rattle.calloop_loop.specs.declared.LoopCall.TheVariants.{Insert}
use Rattle.calloop_loop.specs.declared.LoopAnswer.TheVariants.{Inserted}
use Rattle.calloop.specs.declared.timeout.TimeoutFuture.{TimeoutFuture}
use Rattle.calloop.specs.declared.timeout.TimeoutTimer.{TimeoutTimer}
use Rattle.calloop.specs.declared.timeout.WakesTimeout.{WakesTimeout}
use Rattle.calloop_loop.specs.Askings.{Asks, Runs}
use Rattle.calloop_loop.specs.Handles.{held_by, IsCase}

-- whether a moment has come, by an answer of a clock; without a moment, it never comes: calloop's TimeoutFuture::poll compares in
-- the same way
abbrev pub HasCome : (shows : ℕ → Type 0) → Option Instant → Bool → Type 0
HasCome shows None come = come ≡ false
HasCome shows (Some moment) come = (now : ℕ) × shows now × (come ≡ nat_le moment.nanos now)

abbrev pub is_ready : {T : Type 0} → Poll T → Bool
is_ready (Ready x) = true
is_ready Pending = false

-- a timer that isn't armed yet, and its callback
abbrev pub timer_at : {R : Type 0} → Instant → WakesTimeout R → TimeoutTimer R
timer_at moment wakes = record { timer = record { source = fresh_timer (Some moment); callback = wakes } }

-- the callback that wakes the future of this timeout
abbrev pub IsOf : {C R : Type 0} → TimeoutFuture C R → WakesTimeout R → Type 0
IsOf made wakes = arc_value wakes.parked ≡ arc_value made.parked

-- A timer of this moment was inserted, which wakes the future. It is the loop's own, so no call of a handle names it.
abbrev pub HasTimer : {D P C R X I : Type 0} → Meaning D P (Lent X (Asks D I)) → Runs D I X → Outside P
    → (placed : TimeoutTimer R → D) → Instant → TimeoutFuture C R
    → LoopHandle D P C R X I → LoopHandle D P C R X I → Type 0
HasTimer {D} {P} {C} {R} M runs O placed moment made old new =
    (token : RegistrationToken) × (wakes : WakesTimeout R) × IsOf made wakes
    × (M.role (placed (timer_at moment wakes)) ≡ Timeout)
    × IsCase M runs O (Insert (placed (timer_at moment wakes))) (Inserted (Ok token)) old new

-- Its insertion failed so, or there was no memory for the future before, and the loop is unchanged.
abbrev pub HasNoTimer : {D P C R X I : Type 0} → Meaning D P (Lent X (Asks D I)) → Runs D I X → Outside P
    → (placed : TimeoutTimer R → D) → Instant → Error
    → LoopHandle D P C R X I → LoopHandle D P C R X I → Type 0
HasNoTimer {D} {P} {C} {R} M runs O placed moment e old new =
    ((e ≡ OutOfMemory) × (held_by new ≡ held_by old))
    ⊎ ((back : InsertError D) × (back.error ≡ e) × (wakes : WakesTimeout R)
    × IsCase M runs O (Insert (placed (timer_at moment wakes))) (Inserted (Err back)) old new)

-- The outcome of making one. Without a moment nothing is inserted, and only running out of memory makes it fail.
abbrev pub IsMade : {D P C R X I : Type 0} → Meaning D P (Lent X (Asks D I)) → Runs D I X → Outside P
    → (placed : TimeoutTimer R → D) → Option Instant → Result (TimeoutFuture C R) Error
    → LoopHandle D P C R X I → LoopHandle D P C R X I → Type 0
IsMade M runs O placed None result old new =
    IfOk result (λ made. made.deadline ≡ None) × IfErr result (λ e. e ≡ OutOfMemory) × (held_by new ≡ held_by old)
IsMade M runs O placed (Some moment) result old new =
    IfOk result (λ made. (made.deadline ≡ Some moment) × HasTimer M runs O placed moment made old new)
    × IfErr result (λ e. HasNoTimer M runs O placed moment e old new)

module _ {P R X Q : Type 0} (may : Calling (WakesTimeout R) Instant (Unit {0}) TimeoutAction X Q) (reaches : Q → Q → Type 0) where
  -- a timer with this callback
  abbrev wakes_meaning : Meaning (Dispatcher Timer (WakesTimeout R)) P (Lent X Q)
  wakes_meaning = with_callback timer_meaning may reaches (λ (cause : TimerError) e. e ≡ OutOfMemory)

  -- the same, as the loop's own
  abbrev pub timeout_meaning : Meaning (TimeoutTimer R) P (Lent X Q)
  timeout_meaning = in_role Timeout (seen_as (λ t. t.timer) wakes_meaning)

  -- Proofs from here on, which the impls cite.

  pub timeout_keeps : IsKeeping timeout_meaning
  timeout_keeps =
      keeping_in_role Timeout (seen_as (λ t. t.timer) wakes_meaning)
      (keeping_seen (λ t. t.timer) wakes_meaning
      (keeping_with_callback timer_meaning may reaches (λ (cause : TimerError) e. e ≡ OutOfMemory) timer_keeps))

  pub timeout_asks : ((q : Q) → reaches q q) → ((q r s : Q) → reaches q r → reaches r s → reaches q s)
      → IsAsking reaches timeout_meaning
  timeout_asks stays goes_on =
      asking_seen (λ (t : TimeoutTimer R). t.timer) reaches wakes_meaning
      (asking_with_callback timer_meaning may reaches (λ (cause : TimerError) e. e ≡ OutOfMemory) stays goes_on)

  pub timeout_fails : FailsAsSource timeout_meaning
  timeout_fails =
      failing_seen (λ (t : TimeoutTimer R). t.timer) wakes_meaning
      (failing_with_callback timer_meaning may reaches (λ (cause : TimerError) e. e ≡ OutOfMemory) (λ cause e is. memory_of_source e is))

  pub timeout_quiet : IsQuietCall may → IsQuiet timeout_meaning
  timeout_quiet quiet =
      quiet_seen (λ (t : TimeoutTimer R). t.timer) wakes_meaning
      (quiet_dispatcher timer_meaning may reaches (λ (cause : TimerError) e. e ≡ OutOfMemory) quiet)
