use Rattle.std.proofs.Common.{refl}
use Rattle.calloop_poll.proofs.sys.poll.Poll.poller_mut.Goals as goal

pub returns : goal.returns
returns g c = ((refl, λ w. refl), record { writes_back = tt; value = refl })
