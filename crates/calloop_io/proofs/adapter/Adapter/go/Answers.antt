use Rattle.std.proofs.Common.{Err}
use Rattle.calloop_poll.specs.sys.Polls.{poll_view}
use Rattle.calloop_io.proofs.Adapting.{stays_out, goes_out}
use Rattle.calloop_io.proofs.adapter.Adapter.go.Goals as goal

pub returns-in_default-clause-steps : goal.returns-in_default-clause-steps
returns-in_default-clause-steps g c = stays_out g.P.Poller.sockets g.P.Poller.outside c.args.self.now.token c.args.self.now (poll_view c.args.poll.now) c.in_default.is

pub returns-in-Err-clause-steps : goal.returns-in-Err-clause-steps
returns-in-Err-clause-steps g c =
    rw c.come_out-in-Err.ensures
    (goes_out g.P.Poller.sockets g.P.Poller.outside c.args.self.now.token c.in-Some.token c.args.self.now (poll_view c.args.poll.now) (poll_view c.take_out.new.poll) (poll_view c.discard.new.self) (Err c.in-Err.failure) c.in-Some.is c.in-Err.ensures.steps c.discard.ensures.edit)

pub returns-in-Err-clause-ready : goal.returns-in-Err-clause-ready
returns-in-Err-clause-ready g c more h = c.discard.ensures.ready more (c.in-Err.ensures.ready more h)
