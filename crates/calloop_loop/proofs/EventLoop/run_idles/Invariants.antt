use Rattle.std.proofs.Common.{length}
use Rattle.calloop_loop.specs.Machine.{view_of}
use Rattle.calloop_loop.specs.Rules.{Goes, Idling, RunningIdles}
use Rattle.calloop_loop.proofs.EventLoop.run_idles.Given as goal

abbrev pub invariant-round : goal.invariant-round
invariant-round g l = Goes g.D.Dispatch.means g.D.Idle.IdleCallback.runs g.P.Poller.outside (Idling l.fn.«data») (RunningIdles l.«data») (view_of l.fn.self) (view_of l.self)

abbrev pub decreases-round : goal.decreases-round
decreases-round g l = length l.self.requests.running
