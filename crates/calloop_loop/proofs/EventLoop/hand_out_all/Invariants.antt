use Rattle.std.proofs.Common.{length}
use Rattle.calloop_loop.specs.Machine.{view_of}
use Rattle.calloop_loop.specs.Rules.{Goes, Cutting}
use Rattle.calloop_loop.proofs.EventLoop.hand_out_all.Given as goal

abbrev pub invariant-batch : goal.invariant-batch
invariant-batch g l = Goes g.D.Dispatch.means g.D.Idle.IdleCallback.runs g.P.Poller.outside (Cutting l.initial.«data») (Cutting l.«data») (view_of l.initial.self) (view_of l.self)

abbrev pub decreases-batch : goal.decreases-batch
decreases-batch g l = length l.self.poll.batch.events
