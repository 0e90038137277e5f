use Rattle.std.proofs.Common.{sym}
use Rattle.calloop_loop.specs.Machine.{view_of}
use Rattle.calloop_loop.proofs.ServedAsks.{serves_first}
use Rattle.calloop_loop.proofs.EventLoop.serve_first.Goals as goal

pub returns : goal.returns
returns g c =
    serves_first g.D.Dispatch.means g.P.Poller.outside c.args.self.now.requests.written c.in-Some.request (view_of c.args.self.now) (view_of c.serve.new.self)
    (sym c.in-Some.ensures.first) (rw c.begin.ensures.asks at c.serve.ensures)
