-- A turn of a ping leaves its key as it is, and makes no step of a timer. The impl cites these proofs, so they stand here.
use Rattle.std.proofs.Common.{ap}
use Rattle.calloop_sources.specs.sources.Meanings.{IsKeeping}
use Rattle.calloop_ends.specs.cell.CellKeeping.{OpensQuietly, cell_keeps}
use Rattle.calloop_ends.specs.ping.Pings.{PingOpens, SamePing, ping_tally, ping_meaning}

pub ping_quiet : OpensQuietly ping_tally PingOpens
ping_quiet s t calls action h = ap (λ x. x.key) h.4

pub ping_keeps : {P : Type 0} → IsKeeping (ping_meaning {P = P})
ping_keeps = cell_keeps ping_tally SamePing PingOpens ping_quiet
