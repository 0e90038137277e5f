use Rattle.calloop_loop.specs.Machine.{view_of}
use Rattle.calloop_loop.proofs.ServedAsks.{first_then, none_left}
use Rattle.calloop_loop.proofs.EventLoop.serve_all.Goals as goal

pub requests-preserved : goal.requests-preserved
requests-preserved g c t h =
    c.requests.invariant t (first_then g.D.Dispatch.means g.P.Poller.outside (view_of c.requests.self) (view_of c.serve_first.new.self) t (rw c.requests-test.true at c.serve_first.ensures) h)

pub returns : goal.returns
returns g c = c.requests.invariant (view_of c.serve_first.new.self) (none_left g.D.Dispatch.means g.P.Poller.outside (view_of c.requests.self) (view_of c.serve_first.new.self) (rw c.requests-test.false at c.serve_first.ensures))
