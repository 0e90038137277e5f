use Rattle.calloop_slots.specs.Failures.{with_error}
use Rattle.calloop_loop.specs.Held.{is_listed}
use Rattle.calloop_loop.specs.Machine.{view_of}
use Rattle.calloop_loop.proofs.Rearming.{not_rearmed, rearmed}
use Rattle.calloop_loop.proofs.EventLoop.rearm_source.Goals as goal

pub returns-then-not-try_set_deadline : goal.returns-then-not-try_set_deadline
returns-then-not-try_set_deadline g c =
    let v = view_of c.args.self.now in
    not_rearmed g.D.Dispatch.means g.P.Poller.outside c.args.deadline c.args.token (is_listed c.args.token v.held.lifecycle) v c.args.source.now c.try_set_deadline.new.self
    (rw c.if-not-try_set_deadline.true at c.try_set_deadline.ensures)

pub returns : goal.returns
returns g c =
    let v = view_of c.args.self.now in
    rearmed g.D.Dispatch.means g.P.Poller.outside c.args.deadline c.args.token (is_listed c.args.token v.held.lifecycle) v c.args.source.now c.register.new.source c.try_set_deadline.new.self
    (with_error c.register.result c.register.new.failure) (view_of c.register.new.self)
    (rw c.if-not-try_set_deadline.false at c.try_set_deadline.ensures) c.register.ensures
