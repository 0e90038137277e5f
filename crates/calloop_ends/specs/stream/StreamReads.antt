-- The answers of a stream's polls, one after the other.
use Rattle.std.specs.Prelude.{◌≡◌, List, [], ◌∷◌, Option, Some, None}
use Rattle.calloop_ends.specs.declared.futures.task.Poll.{Poll}
use Rattle.calloop_ends.specs.declared.futures.task.Poll.TheVariants.{Ready, Pending}
use Rattle.calloop_ends.specs.declared.stream.reading.Ending.{Ending}
use Rattle.calloop_ends.specs.declared.stream.reading.Ending.TheVariants.{AtPending, AtEnd, AtLimit}
use Rattle.calloop_ends.specs.declared.stream.reading.Read.{Read}
use Rattle.calloop_ends.specs.declared.stream.reading.Read.TheVariants.{Item, End, Pending as Waits}

-- what one poll of a stream may do: the stream before it, its answer, and the stream after it
abbrev pub Polls : (S I : Type 0) → Type 1
Polls S I = S → Poll (Option I) → S → Type 0

-- one poll, which hands the stream on if that isn't at its end
abbrev pub IsNext : {S I R : Type 0} → Polls S I → S → Read S R I → Type 0
IsNext polls s (Item x rest) = polls s (Ready (Some x)) rest.stream
IsNext {S} polls s End = (t : S) × polls s (Ready None) t
IsNext polls s (Waits rest) = polls s Pending rest.stream

-- each item is that of a poll, in order; after them a poll was pending or told the end, or there was none
abbrev pub ReadsTo : {S I : Type 0} → Polls S I → S → List I → Ending → S → Type 0
ReadsTo polls s [] AtPending t = polls s Pending t
ReadsTo polls s [] AtEnd t = polls s (Ready None) t
ReadsTo polls s [] AtLimit t = t ≡ s
ReadsTo {S} polls s (x ∷ xs) ending t = (u : S) × polls s (Ready (Some x)) u × ReadsTo polls u xs ending t

-- the stream is dropped once its end was told; calloop's stays
abbrev pub left_by : {S : Type 0} → Ending → S → Option S
left_by AtPending t = Some t
left_by AtEnd t = None
left_by AtLimit t = Some t
