use Rattle.std.proofs.Common.{ap}
use Rattle.calloop_loop.specs.Askings.{taken_up}
use Rattle.calloop_loop.proofs.asks.Requests.take_up_idles.Goals as goal

pub returns : goal.returns
returns g c = rw (c.move_all.ensures.items.0, c.move_all.ensures.items.1) (ap taken_up c.self.view_is)
