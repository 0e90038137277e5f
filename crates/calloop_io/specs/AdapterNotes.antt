-- The notes that each end of an adapter makes of what it does under the adapter's lock.
use Rattle.std.specs.Prelude.{◌++◌, ◌∷◌, []}
use Rattle.calloop_io.specs.declared.notes.PollNote.{PollNote}
use Rattle.calloop_io.specs.declared.notes.PollNote.TheVariants.{Answered, Refused, Waits, Tried, Flushed}
use Rattle.calloop_io.specs.declared.notes.SlotNote.{SlotNote}
use Rattle.calloop_io.specs.declared.notes.SlotNote.TheVariants.{Heard, Settled, Kept, Asked, Reached}
use Rattle.calloop_io.specs.declared.notes.LentPollNote.{LentPollNote}
use Rattle.calloop_io.specs.declared.notes.LentPollNote.TheVariants.{Answered as LentAnswered, Refused as LentRefused, Waits as LentWaits, Tried as LentTried, Flushed as LentFlushed}
use Rattle.calloop_io.specs.declared.notes.LentSlotNote.{LentSlotNote}
use Rattle.calloop_io.specs.declared.notes.LentSlotNote.TheVariants.{Heard as LentHeard, Settled as LentSettled, Kept as LentKept, Asked as LentAsked, Reached as LentReached}
use Rattle.calloop_io.specs.declared.state.PollTally.{PollTally}
use Rattle.calloop_io.specs.declared.state.SlotTally.{SlotTally}

-- with another note
abbrev pub with_poll_note : PollNote → PollTally → PollTally
with_poll_note note tally = record tally { notes = tally.notes ++ note ∷ [] }

abbrev pub with_slot_note : SlotNote → SlotTally → SlotTally
with_slot_note note tally = record tally { notes = tally.notes ++ note ∷ [] }

-- the note behind a lent one
abbrev pub poll_note_of : LentPollNote → PollNote
poll_note_of (LentAnswered answer) = Answered answer.now
poll_note_of (LentRefused error) = Refused error.now
poll_note_of (LentWaits wanted) = Waits wanted
poll_note_of (LentTried answer) = Tried answer.now
poll_note_of (LentFlushed answer) = Flushed answer.now

abbrev pub slot_note_of : LentSlotNote → SlotNote
slot_note_of (LentHeard found) = Heard found
slot_note_of (LentSettled settled) = Settled settled
slot_note_of (LentKept error) = Kept error.now
slot_note_of (LentAsked leaves) = Asked leaves
slot_note_of (LentReached there) = Reached there
