-- What polls of an `Async` did that try its socket more than once, or move whole vectors.
use Rattle.std.specs.Prelude.{◌≡◌, ◌≢◌, ◌⊎◌, ◌++◌, ◌∷◌, ◌+◌, [], ℕ, List, Option, Some, None, Result, Ok, Err, IsSomeAnd, length, drop, sum_by, All}
use Rattle.std.specs.List.{last_or}
use Rattle.std.specs.Global.{Vec}
use Rattle.std.specs.Io.{StartsWith}
use Rattle.std.specs.declared.io.Error.{Error as Cause}
use Rattle.std.specs.declared.io.ErrorKind.TheVariants.{WouldBlock, WriteZero, OutOfMemory as NoMemory}
use Rattle.std.specs.IoError.{error_kind}
use Rattle.calloop_slots.specs.declared.error.Error.TheVariants.{OutOfMemory}
use Rattle.calloop_slots.specs.Errors.{AsIo}
use Rattle.calloop_ends.specs.declared.futures.task.Poll.{Poll}
use Rattle.calloop_ends.specs.declared.futures.task.Poll.TheVariants.{Ready, Pending}
use Rattle.calloop_io.specs.declared.state.PollTally.{PollTally}
use Rattle.calloop_io.specs.declared.notes.PollNote.{PollNote}
use Rattle.calloop_io.specs.declared.notes.PollNote.TheVariants.{Answered, Refused, Waits, Tried, Flushed}
use Rattle.calloop_io.specs.AsyncPolls.{Polls, to_read}

-- the notes that t has behind those of s
abbrev pub notes_since : PollTally → PollTally → List PollNote
notes_since s t = drop (length s.notes) t.notes

-- t is s with more notes
abbrev pub HasMoreNotes : PollTally → PollTally → Type 0
HasMoreNotes s t = t ≡ record s { notes = s.notes ++ notes_since s t }

-- the bytes that the socket took or gave
abbrev pub moved_by : PollNote → ℕ
moved_by (Answered answer) = 0
moved_by (Refused error) = 0
moved_by (Waits wanted) = 0
moved_by (Tried (Ok count)) = count
moved_by (Tried (Err cause)) = 0
moved_by (Flushed answer) = 0

abbrev pub moved_in : List PollNote → ℕ
moved_in notes = sum_by moved_by notes

abbrev pub moved : PollTally → PollTally → ℕ
moved s t = moved_in (notes_since s t)

abbrev pub last_since : PollTally → PollTally → Option PollNote
last_since s t = last_or None (notes_since s t)

-- the bytes that one read or write moved
abbrev pub count_of : Poll (Result ℕ Cause) → ℕ
count_of (Ready (Ok count)) = count
count_of (Ready (Err cause)) = 0
count_of Pending = 0

-- new is old with this many bytes behind it
abbrev pub IsLonger : List ℕ → ℕ → List ℕ → Type 0
IsLonger old more new = StartsWith new old × (length new ≡ length old + more)

-- The error is that of the last note: a kept refusal, or that of a call of the socket; or there was no memory to wait.
abbrev pub FailsSo : Cause → PollNote → Type 0
FailsSo cause (Answered answer) = ⊥
FailsSo cause (Refused None) = ⊥
FailsSo cause (Refused (Some e)) = AsIo e cause
FailsSo cause (Waits wanted) = AsIo OutOfMemory cause
FailsSo cause (Tried (Ok count)) = ⊥
FailsSo cause (Tried (Err tried)) =
    ((cause ≡ tried) × (error_kind tried ≢ WouldBlock)) ⊎ ((error_kind tried ≡ WouldBlock) × AsIo OutOfMemory cause)
FailsSo cause (Flushed answer) = ⊥

-- the same, or the last write took nothing
abbrev pub WriteFailsSo : Cause → PollNote → Type 0
WriteFailsSo cause last = FailsSo cause last ⊎ ((last ≡ Tried (Ok 0)) × (error_kind cause ≡ WriteZero))

-- there was no memory for the bytes
abbrev pub HasNoRoom : {T : Type 0} → Poll (Result T Cause) → Type 0
HasNoRoom (Ready (Ok x)) = ⊥
HasNoRoom (Ready (Err cause)) = error_kind cause ≡ NoMemory
HasNoRoom Pending = ⊥

-- It has no room, and does nothing; or it reads once.
abbrev pub ReadsMore : PollTally → Poll (Result ℕ Cause) → PollTally → Type 0
ReadsMore s result t = (HasNoRoom result × (t ≡ s)) ⊎ Polls to_read Tried s result t

-- the last read found the end of the stream
abbrev pub HasEnded : PollTally → PollTally → Type 0
HasEnded s t = last_since s t ≡ Some (Tried (Ok 0))

-- What the buffer had, with what was read behind it, is the line, a line feed and the rest. At the end of the stream it is the last
-- line, if that isn't empty. Without a line it is the buffer.
abbrev pub TakesLine : PollTally → List ℕ → Poll (Result (Option (Vec ℕ)) Cause) → PollTally → List ℕ → Type 0
TakesLine s old (Ready (Ok (Some line))) t new =
    IsLonger old (moved s t) (line.items ++ 10 ∷ new)
    ⊎ (HasEnded s t × (line.items ≢ []) × IsLonger old (moved s t) line.items × (new ≡ []))
TakesLine s old (Ready (Ok None)) t new = HasEnded s t × IsLonger old (moved s t) [] × (new ≡ [])
TakesLine s old (Ready (Err cause)) t new = IsLonger old (moved s t) new
TakesLine s old Pending t new = IsLonger old (moved s t) new

-- how often the socket was tried
abbrev pub tries_by : PollNote → ℕ
tries_by (Answered answer) = 0
tries_by (Refused error) = 0
tries_by (Waits wanted) = 0
tries_by (Tried answer) = 1
tries_by (Flushed answer) = 0

abbrev pub tries_since : PollTally → PollTally → ℕ
tries_since s t = sum_by tries_by (notes_since s t)

-- A pending poll waits to read what has no line feed yet; or it read 64 times.
abbrev pub WaitsForLine : PollTally → PollTally → List ℕ → Type 0
WaitsForLine s t new =
    ((last_since s t ≡ Some (Waits to_read)) × All (λ byte. byte ≢ 10) new) ⊎ (tries_since s t ≡ 64)

-- there was no memory for bytes or a line, or the last read failed
abbrev pub LineFailsSo : PollTally → Cause → PollTally → Type 0
LineFailsSo s cause t = (error_kind cause ≡ NoMemory) ⊎ IsSomeAnd (last_since s t) (FailsSo cause)
