use Rattle.std.proofs.Common.{ap, ◌∙◌}
use Rattle.calloop_slots.specs.Failures.{with_error}
use Rattle.calloop_poll.specs.sys.Polls.{poll_view}
use Rattle.calloop_loop.specs.Machine.{View, view_of}
use Rattle.calloop_loop.proofs.Going.{gone, batch-stepped}
use Rattle.calloop_loop.proofs.EventLoop.unregister_left.Goals as goal

pub returns-clause-machine : goal.returns-clause-machine
returns-clause-machine g c told x =
    rw c.hand_back.ensures
    (gone g.D.Dispatch.means g.D.Idle.IdleCallback.runs g.P.Poller.outside c.args.token (view_of c.args.self.now) (view_of c.unregister-told.new.self) c.args.left c.unregister-told.new.source told (with_error c.unregister-told.result c.unregister-told.new.failure) c.note_failure.ensures.0
    c.note_failure.new.self.errors.items x c.requires c.unregister-told.ensures.deed c.note_failure.ensures.1)

pub returns-clause-batch : goal.returns-clause-batch
returns-clause-batch g c = ap (λ (u : View g.row.D.Denot g.row.D-Idle.Denot g.row.P.Denot). u.poll.batch) c.unregister-told.ensures.deed.3 ∙ batch-stepped (poll_view c.args.self.now.poll) c.unregister-told.ensures.deed.0
