use Rattle.std.proofs.Common.{Ok, Err}
use Rattle.calloop_poll.specs.sys.Pollers.{nanos_of}
use Rattle.calloop_loop.specs.Machine.{view_of}
use Rattle.calloop_loop.specs.Rules.{DispatchedBy}
use Rattle.calloop_loop.proofs.Seen.{did_leads}
use Rattle.calloop_loop.proofs.Failing.{dispatch_founded}
use Rattle.calloop_loop.proofs.EventLoop.dispatch.Goals as goal

pub returns-in-Ok-clause-machine : goal.returns-in-Ok-clause-machine
returns-in-Ok-clause-machine g c =
    did_leads (DispatchedBy g.D.Dispatch.means g.D.Idle.IdleCallback.runs g.P.Poller.outside (nanos_of c.args.timeout) c.args.«data».now (Ok tt) c.dispatch_with.new.«data») (view_of c.args.self.now) (view_of c.dispatch_with.new.self) c.in-Ok.ensures

pub returns-in-Err-clause-machine : goal.returns-in-Err-clause-machine
returns-in-Err-clause-machine g c =
    did_leads (DispatchedBy g.D.Dispatch.means g.D.Idle.IdleCallback.runs g.P.Poller.outside (nanos_of c.args.timeout) c.args.«data».now (Err c.dispatch_with.new.failure) c.dispatch_with.new.«data») (view_of c.args.self.now) (view_of c.dispatch_with.new.self) c.in-Err.ensures

pub returns-in-Err-clause-errors : goal.returns-in-Err-clause-errors
returns-in-Err-clause-errors g c =
    dispatch_founded g.D.Dispatch.means g.D.Idle.IdleCallback.runs g.P.Poller.outside (view_of c.args.self.now) (nanos_of c.args.timeout) c.args.«data».now c.dispatch_with.new.«data» (Err c.dispatch_with.new.failure) c.in-Err.ensures.0 c.in-Err.ensures.1
