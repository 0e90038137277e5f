-- A turn of a stream leaves its key as it is, and makes no step of a timer. The impl cites these proofs, so they stand here.
use Rattle.std.proofs.Common.{ap}
use Rattle.calloop_sources.specs.sources.Meanings.{IsKeeping}
use Rattle.calloop_ends.specs.cell.CellKeeping.{OpensQuietly, cell_keeps}
use Rattle.calloop_ends.specs.stream.StreamReads.{Polls}
use Rattle.calloop_ends.specs.stream.Streams.{StreamOpens, SameStream, stream_tally, stream_meaning}

stream_quiet : {S I : Type 0} (polls : Polls S I) → OpensQuietly stream_tally (StreamOpens polls)
stream_quiet polls s t calls action h = ap (λ x. x.key) h.5

pub stream_keeps : {P S I : Type 0} (polls : Polls S I) → IsKeeping (stream_meaning {P = P} polls)
stream_keeps polls = cell_keeps stream_tally SameStream (StreamOpens polls) (stream_quiet polls)
