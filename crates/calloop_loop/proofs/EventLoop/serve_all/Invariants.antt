use Rattle.std.proofs.Common.{length}
use Rattle.calloop_loop.specs.Machine.{View, view_of}
use Rattle.calloop_loop.specs.Rules.{Did}
use Rattle.calloop_loop.specs.Serving.{AllServed}
use Rattle.calloop_loop.proofs.EventLoop.serve_all.Given as goal

abbrev pub invariant-requests : goal.invariant-requests
invariant-requests g l =
    (t : View g.row.D.Denot g.row.D-Idle.Denot g.row.P.Denot) → Did (AllServed g.D.Dispatch.means g.P.Poller.outside) (view_of l.self) t → Did (AllServed g.D.Dispatch.means g.P.Poller.outside) (view_of l.initial.self) t

abbrev pub decreases-requests : goal.decreases-requests
decreases-requests g l = length l.self.requests.written
