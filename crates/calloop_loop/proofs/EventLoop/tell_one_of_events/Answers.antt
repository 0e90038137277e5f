use Rattle.std.proofs.Common.{◌≡◌, sym}
use Rattle.calloop_slots.specs.declared.list.Content.TheVariants.{Source}
use Rattle.calloop_slots.specs.Slots.{content_at}
use Rattle.calloop_slots.proofs.Named.{source_is}
use Rattle.calloop_poll.specs.sys.Polls.{poll_view}
use Rattle.calloop_loop.specs.Machine.{view_of}
use Rattle.calloop_loop.proofs.Going.{not_noticed, noticed}
use Rattle.calloop_loop.proofs.EventLoop.tell_one_of_events.Goals as goal

pub returns-in_default-clause-machine : goal.returns-in_default-clause-machine
returns-in_default-clause-machine g c later x =
    rw c.in_default.ensures.list (not_noticed g.D.Dispatch.means g.D.Idle.IdleCallback.runs g.P.Poller.outside c.args.from c.args.token later (view_of c.args.self.now) x c.in_default.ensures.value)

pub returns-clause-machine : goal.returns-clause-machine
returns-clause-machine g c later x =
    let is : content_at c.args.self.now.sources c.args.token ≡ Source c.in-Some.source = source_is (content_at c.args.self.now.sources c.args.token) c.in-Some.source (sym c.in-Some.ensures.value) in
    rw (c.end_turn-none.ensures.list, c.in-Some.ensures.list)
    (noticed g.D.Dispatch.means g.D.Idle.IdleCallback.runs g.P.Poller.outside c.args.from c.args.token later (view_of c.args.self.now) x c.in-Some.source c.before_handle_events.new.self is
    (rw c.events.ensures at (c.before_handle_events.ensures (poll_view c.args.self.now.poll))))
