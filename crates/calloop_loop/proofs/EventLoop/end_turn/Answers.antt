use Rattle.std.proofs.Common.{Ok, Err}
use Rattle.calloop_slots.specs.Failures.{with_error}
use Rattle.calloop_loop.specs.Machine.{view_of}
use Rattle.calloop_loop.specs.Rules.{Cutting, Ending, Returning, Leaving}
use Rattle.calloop_loop.proofs.Going.{goes_on}
use Rattle.calloop_loop.proofs.EventLoop.end_turn.Goals as goal

pub returns-in-Ok-clause-machine : goal.returns-in-Ok-clause-machine
returns-in-Ok-clause-machine g c x =
    let d = c.act-told.new.source in
    goes_on g.D.Dispatch.means g.D.Idle.IdleCallback.runs g.P.Poller.outside (Ending c.args.token c.args.source (with_error c.args.answer c.args.failure.now) x) (Returning c.args.token d (Ok tt) x) (Cutting x) (view_of c.args.self.now) (view_of c.act-told.new.self) (view_of c.give_back.new.self)
    (c.in-Ok.ensures.machine x) (c.give_back.ensures.machine (Ok tt) x)

pub returns-in-Err-clause-machine : goal.returns-in-Err-clause-machine
returns-in-Err-clause-machine g c x =
    let d = c.act-told.new.source in
    goes_on g.D.Dispatch.means g.D.Idle.IdleCallback.runs g.P.Poller.outside (Ending c.args.token c.args.source (with_error c.args.answer c.args.failure.now) x) (Returning c.args.token d (Err c.act-told.new.failure) x) (Leaving (Err c.act-told.new.failure) x) (view_of c.args.self.now) (view_of c.act-told.new.self) (view_of c.give_back.new.self)
    (c.in-Err.ensures.machine x) (c.give_back.ensures.machine (Err c.act-told.new.failure) x)
