-- What a poller's calls may do. A poller is seen from outside: the loop is proved for all of its answers.
use Rattle.std.specs.Prelude.{◌≡◌, ℕ, ℤ, ◌+◌, Bool, ◌||◌, List, Option, Some, None, Result, Ok, Err}
use Rattle.std.specs.Duration.{as_nanos}
use Rattle.std.specs.declared.time.Duration.{Duration}
use Rattle.std.specs.declared.io.Error.{Error as IoError}
use Rattle.std.specs.IoError.{error_kind}
use Rattle.std.specs.declared.io.ErrorKind.{ErrorKind}
use Rattle.std.specs.declared.io.ErrorKind.TheVariants.{Interrupted}
use Rattle.calloop_poll.specs.declared.sys.Readiness.{Readiness}
use Rattle.calloop_poll.specs.declared.sys.Interest.{Interest}
use Rattle.calloop_poll.specs.declared.sys.Watched.{Watched}

-- a duration in nanoseconds, if there is one
abbrev pub nanos_of : Option Duration → Option ℕ
nanos_of None = None
nanos_of (Some d) = Some (as_nanos d)

-- the most events that one wait returns, as in calloop
abbrev pub events_per_wait : ℕ
events_per_wait = 1024

-- the interest isn't empty
abbrev pub asks : Interest → Bool
asks interest = interest.readable || interest.writable

-- A call for a socket: `Add` has waits return its events under this key, for this interest and in this mode; `Modify`
-- changes its key, interest or mode; after `Delete` no wait returns its events. As calloop's, a poller names a socket by
-- its descriptor, which it gets beside the call.
pub data PollerCall : Type 0 where
  Add : (key : ℕ) (watched : Watched) → PollerCall
  Modify : (key : ℕ) (watched : Watched) → PollerCall
  Delete : PollerCall

-- the poller before a call, the descriptor, the answer, and the poller after it
abbrev pub Sockets : (P : Type 0) → Type 1
Sockets P = P → (fd : ℤ) → PollerCall → Result (Unit {0}) IoError → P → Type 0

-- the poller before, its arguments, its result, and the poller after
pub record Outside (P : Type 0) : Type 1 where
  pub reads : P → (now : ℕ) → P → Type 0
  -- the requested wait in nanoseconds, and the events: keys of tokens with the readiness found
  pub waits : P → (asked : Option ℕ) → Result (Unit {0}) IoError → (given : List (ℕ × Readiness)) → P → Type 0
  -- a call for some socket
  pub calls : P → PollerCall → Result (Unit {0}) IoError → P → Type 0
  -- how many faults there were so far
  pub faults : P → ℕ

-- by how much a result raises the count of faults: by 1 if it is an error
abbrev pub faults_of : {A : Type 0} → Result A IoError → ℕ
faults_of (Ok a) = 0
faults_of (Err cause) = 1

-- the kind of an error
abbrev pub failure_of : {A : Type 0} → Result A IoError → Option ErrorKind
failure_of (Ok a) = None
failure_of (Err cause) = Some (error_kind cause)

-- each wait with a fault is counted; an interruption isn't a fault
abbrev pub IsCounted : ℕ → Result (Unit {0}) IoError → ℕ → Type 0
IsCounted before (Ok u) after = after ≡ before
IsCounted before (Err cause) after =
    (error_kind cause ≡ Interrupted → after ≡ before) × (¬ (error_kind cause ≡ Interrupted) → after ≡ before + 1)
