use Rattle.calloop_ends.specs.ping.Pings.{ping_tally, SamePing, PingOpens}
use Rattle.calloop_ends.specs.ping.PingKeeping.{ping_quiet}
use Rattle.calloop_ends.proofs.Registered.{cell_is_registered}
use Rattle.calloop_ends.proofs.ping.source.is_registered_by_its_calls.Goals as goal

pub returns : goal.returns
returns g c = cell_is_registered ping_tally SamePing PingOpens ping_quiet
