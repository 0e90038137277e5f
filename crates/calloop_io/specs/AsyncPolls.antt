-- What a poll of an `Async` may answer, by what its end did under the adapter's lock and to its socket. calloop's polls call the
-- poller as well; here a refusal of the poller is kept for the next poll.
use Rattle.std.specs.Prelude.{◌≡◌, ◌≢◌, ◌⊎◌, true, false, Some, None, Result, Ok, Err}
use Rattle.std.specs.declared.io.Error.{Error as Cause}
use Rattle.std.specs.declared.io.ErrorKind.TheVariants.{WouldBlock}
use Rattle.std.specs.IoError.{error_kind}
use Rattle.calloop_slots.specs.declared.error.Error.{Error}
use Rattle.calloop_slots.specs.declared.error.Error.TheVariants.{OutOfMemory}
use Rattle.calloop_slots.specs.Errors.{AsIo}
use Rattle.calloop_poll.specs.declared.sys.Interest.{Interest}
use Rattle.calloop_ends.specs.declared.futures.task.Poll.{Poll}
use Rattle.calloop_ends.specs.declared.futures.task.Poll.TheVariants.{Ready, Pending}
use Rattle.calloop_io.specs.declared.state.PollTally.{PollTally}
use Rattle.calloop_io.specs.declared.notes.PollNote.{PollNote}
use Rattle.calloop_io.specs.declared.notes.PollNote.TheVariants.{Answered, Refused, Waits}
use Rattle.calloop_io.specs.AdapterNotes.{with_poll_note}

abbrev pub to_read : Interest
to_read = record { readable = true; writable = false }

abbrev pub to_write : Interest
to_write = record { readable = false; writable = true }

-- there was no memory to wait, or to be marked
abbrev pub HadNoMemory : Interest → PollTally → PollTally → Type 0
HadNoMemory wanted s t = (t ≡ s) ⊎ (t ≡ with_poll_note (Waits wanted) s)

-- A pending poll waits for this interest. Any other answer is that under the lock, or there was no memory.
abbrev pub WaitsFor : Interest → PollTally → Poll (Result (Unit {0}) Error) → PollTally → Type 0
WaitsFor wanted s (Ready answer) t =
    (t ≡ with_poll_note (Answered answer) s) ⊎ ((answer ≡ Err OutOfMemory) × HadNoMemory wanted s t)
WaitsFor wanted s Pending t = t ≡ with_poll_note (Waits wanted) s

-- the answer of a call of the socket, unless it is that it would block
abbrev pub WouldNotBlock : {T : Type 0} → Result T Cause → Type 0
WouldNotBlock (Ok x) = Unit {0}
WouldNotBlock (Err cause) = error_kind cause ≢ WouldBlock

-- the answer of a call of the socket is handed on, unless it would block; then the poll waits for this, or has no memory for it
abbrev pub AnswersWith : {T : Type 0} → Interest → Result T Cause → PollTally → Poll (Result T Cause) → PollTally → Type 0
AnswersWith {T} wanted answer s (Ready given) t =
    ((given ≡ answer) × WouldNotBlock answer × (t ≡ s))
    ⊎ ((blocked : Cause) × (cause : Cause) × (answer ≡ Err blocked) × (error_kind blocked ≡ WouldBlock)
    × (given ≡ Err cause) × AsIo OutOfMemory cause × HadNoMemory wanted s t)
AnswersWith wanted answer s Pending t =
    (blocked : Cause) × (answer ≡ Err blocked) × (error_kind blocked ≡ WouldBlock) × (t ≡ with_poll_note (Waits wanted) s)

-- A kept refusal is the answer. If there is none, the socket is tried once, as this note says, and its result is the answer.
abbrev pub Polls : {T : Type 0} → Interest → (tried : Result T Cause → PollNote) → PollTally → Poll (Result T Cause) → PollTally → Type 0
Polls {T} wanted tried s result t =
    ((e : Error) × (cause : Cause) × AsIo e cause × (result ≡ Ready (Err cause)) × (t ≡ with_poll_note (Refused (Some e)) s))
    ⊎ ((answer : Result T Cause) × AnswersWith wanted answer (with_poll_note (tried answer) (with_poll_note (Refused None) s)) result t)
