-- A stream as a source. Its registrations are those of the ping that its waker rings. calloop's StreamSource polls without a
-- limit, and may tell the end again.
use Rattle.std.specs.Prelude.{◌≡◌, ℕ, ◌<◌, List, [], ◌∷◌, length, Bool, true, false, Option, None, Some}
use Rattle.logbook.specs.Pages.{Book}
use Rattle.calloop_wake.specs.declared.Receipt.{Receipt}
use Rattle.calloop_wake.specs.declared.Tally.{Tally}
use Rattle.calloop_wake.specs.Cells.{fresh_tally}
use Rattle.calloop_sources.specs.declared.sources.source.PostAction.{PostAction}
use Rattle.calloop_sources.specs.declared.sources.source.PostAction.TheVariants.{Continue, Remove}
use Rattle.calloop_sources.specs.sources.Calls.{CallbackCall}
use Rattle.calloop_sources.specs.sources.Deeds.{Heard}
use Rattle.calloop_sources.specs.sources.Meanings.{Meaning}
use Rattle.calloop_ends.specs.ping.Pings.{tally_opened}
use Rattle.calloop_ends.specs.declared.stream.reading.Ending.{Ending}
use Rattle.calloop_ends.specs.declared.stream.reading.Ending.TheVariants.{AtPending, AtEnd, AtLimit}
use Rattle.std.specs.Option.{option_map}
use Rattle.calloop_ends.specs.declared.stream.reading.Readable.{Readable}
use Rattle.calloop_ends.specs.declared.stream.errors.StreamError.{StreamError}
use Rattle.calloop_ends.specs.stream.StreamReads.{Polls, ReadsTo, left_by}
use Rattle.calloop_ends.specs.cell.CellSources.{OpenTurns, cell_meaning}

-- the most items of one turn
abbrev pub most_items : ℕ
most_items = 1024

-- the calls of a stream's callback
abbrev pub StreamCalls : Type 0 → Type 0
StreamCalls I = List (CallbackCall (Option I) (Unit {0}) (Unit {0}))

abbrev pub call_with : {I : Type 0} → Option I → CallbackCall (Option I) (Unit {0}) (Unit {0})
call_with event = record { event = event; before = tt; after = tt; answer = tt }

-- the call of the end, which is told as `None`
abbrev pub end_calls : {I : Type 0} → Ending → StreamCalls I
end_calls AtEnd = call_with None ∷ []
end_calls AtPending = []
end_calls AtLimit = []

-- a call for each item, in order, and then that of the end
abbrev pub calls_of : {I : Type 0} → List I → Ending → StreamCalls I
calls_of [] ending = end_calls ending
calls_of (x ∷ xs) ending = call_with (Some x) ∷ calls_of xs ending

-- a turn ends when the stream is pending or at its end, or after so many items
abbrev pub EndsSo : (items : ℕ) → Ending → Type 0
EndsSo items AtPending = items < most_items
EndsSo items AtEnd = items < most_items
EndsSo items AtLimit = items ≡ most_items

-- the end removes the source
abbrev pub action_of : Ending → PostAction
action_of AtEnd = Remove
action_of AtPending = Continue
action_of AtLimit = Continue

-- at the limit a stream rings its own ping, and keeps the receipt
abbrev pub RingsItself : (name : Book) → Ending → Option Receipt → Type 0
RingsItself name AtLimit (Some r) = r.name ≡ name
RingsItself name AtLimit None = ⊥
RingsItself name AtPending receipt = receipt ≡ None
RingsItself name AtEnd receipt = receipt ≡ None

-- the view of what a source reads: the stream, until its end was told, and the receipt of its own ring
pub record Reading (S : Type 0) : Type 0 where
  pub stream : Option S
  pub own : Option Receipt

-- the view of a stream's source: its tally, as that of a ping, and what it reads
pub record StreamEnd (S : Type 0) : Type 0 where
  pub tally : Tally
  pub reading : Reading S

-- a source that isn't registered and wasn't polled
abbrev pub fresh_stream : {S : Type 0} → S → (name : Book) → StreamEnd S
fresh_stream stream name = record { tally = fresh_tally name; reading = record { stream = Some stream; own = None } }

-- what a source reads, made from the parts
abbrev pub reading_of : {S R I : Type 0} → Option (Readable S R I) → Option Receipt → Reading S
reading_of stream own = record { stream = option_map (λ r. r.stream) stream; own = own }

-- A turn that took a ring reads the stream, unless its end was told before; any other does nothing.
abbrev pub ReadsSo : {S I : Type 0} → Polls S I → Book → (rung : Bool) → Option S → List I → Ending → Reading S
    → StreamCalls I → PostAction → Reading S → Type 0
ReadsSo {S} polls name true (Some s) items ending before calls action after =
    EndsSo (length items) ending × ((t : S) × ReadsTo polls s items ending t × (after.stream ≡ left_by ending t))
    × (calls ≡ calls_of items ending) × (action ≡ action_of ending) × RingsItself name ending after.own
ReadsSo polls name true None items ending before calls action after =
    (calls ≡ []) × (action ≡ Continue) × (after ≡ before)
ReadsSo polls name false stream items ending before calls action after =
    (calls ≡ []) × (action ≡ Continue) × (after ≡ before)

-- what a turn does that took this ring, and that its ping's cell opens
abbrev pub StreamOpens : {S I : Type 0} → Polls S I → OpenTurns (StreamEnd S) (Option I) (Unit {0}) (Unit {0})
StreamOpens {S} {I} polls s calls action after =
    (rung : Bool) × (told : Bool) × (items : List I) × (ending : Ending)
    × ReadsSo polls s.tally.name rung s.reading.stream items ending s.reading calls action after.reading
    × (after.tally ≡ tally_opened rung told s.tally)

abbrev pub stream_tally : {S : Type 0} → StreamEnd S → Tally
stream_tally s = s.tally

-- its cell stays the same one, and what it reads stays
abbrev pub SameStream : {S : Type 0} → (before after : StreamEnd S) → Type 0
SameStream before after = (after.tally.name ≡ before.tally.name) × (after.reading ≡ before.reading)

abbrev pub stream_meaning : {P S I : Type 0} → Polls S I
    → Meaning (StreamEnd S) P (Heard (Option I) (Unit {0}) (Unit {0}) StreamError)
stream_meaning polls = cell_meaning stream_tally SameStream (StreamOpens polls)
