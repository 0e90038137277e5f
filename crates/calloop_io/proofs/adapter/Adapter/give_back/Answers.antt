use Rattle.std.proofs.Common.{refl}
use Rattle.calloop_poll.specs.sys.Polls.{poll_view}
use Rattle.calloop_slots.specs.declared.error.Error.TheVariants.{IoError}
use Rattle.calloop_io.proofs.Adapting.{nowhere, not_let, let_out}
use Rattle.calloop_io.proofs.adapter.Adapter.give_back.Goals as goal

pub returns-in_default-clause-steps : goal.returns-in_default-clause-steps
returns-in_default-clause-steps g c = nowhere g.P.Poller.sockets g.P.Poller.outside c.args.self.now.token c.args.self.now (poll_view c.args.poll.now) (IoError c.from.result) c.in_default.is (c.from.result, refl, c.from.ensures)

pub returns-then-not-is_leaving-clause-steps : goal.returns-then-not-is_leaving-clause-steps
returns-then-not-is_leaving-clause-steps g c =
    rw (c.is_leaving.ensures, c.if-not-is_leaving.true)
    (not_let g.P.Poller.sockets g.P.Poller.outside c.args.self.now.token c.in-Some.token c.args.self.now (poll_view c.args.poll.now) c.in-Some.is)

pub returns-clause-steps : goal.returns-clause-steps
returns-clause-steps g c =
    rw (c.leave.ensures.adapter, c.is_leaving.ensures, c.if-not-is_leaving.false)
    (let_out g.P.Poller.sockets g.P.Poller.outside c.args.self.now.token c.in-Some.token c.args.self.now (poll_view c.args.poll.now) (poll_view c.leave.new.poll) c.leave.result c.in-Some.is c.leave.ensures.steps)
