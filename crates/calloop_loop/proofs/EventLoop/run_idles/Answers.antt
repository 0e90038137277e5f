use Rattle.std.proofs.Common.{Ok}
use Rattle.calloop_loop.specs.Machine.{view_of}
use Rattle.calloop_loop.specs.Rules.{Idling, RunningIdles, Leaving}
use Rattle.calloop_loop.proofs.Going.{goes_on, round_begun}
use Rattle.calloop_loop.proofs.EventLoop.run_idles.Goals as goal

pub round-init : goal.round-init
round-init g c = rw c.take_up_idles.ensures (round_begun g.D.Dispatch.means g.D.Idle.IdleCallback.runs g.P.Poller.outside c.args.«data».now (view_of c.args.self.now))

pub round-preserved : goal.round-preserved
round-preserved g c =
    goes_on g.D.Dispatch.means g.D.Idle.IdleCallback.runs g.P.Poller.outside (Idling c.args.«data».now) (RunningIdles c.round.«data») (RunningIdles c.run_idle.new.«data») (view_of c.args.self.now) (view_of c.round.self) (view_of c.run_idle.new.self)
    c.round.invariant (rw c.round-test.true at c.run_idle.ensures.machine)

pub returns : goal.returns
returns g c =
    goes_on g.D.Dispatch.means g.D.Idle.IdleCallback.runs g.P.Poller.outside (Idling c.args.«data».now) (RunningIdles c.round.«data») (Leaving (Ok tt) c.run_idle.new.«data») (view_of c.args.self.now) (view_of c.round.self) (view_of c.run_idle.new.self)
    c.round.invariant (rw c.round-test.false at c.run_idle.ensures.machine)
