use Rattle.std.proofs.Common.{◌≡◌, sym}
use Rattle.calloop_slots.specs.declared.list.Content.TheVariants.{Source}
use Rattle.calloop_slots.specs.Slots.{content_at}
use Rattle.calloop_slots.specs.Failures.{with_error}
use Rattle.calloop_slots.proofs.Named.{source_is}
use Rattle.calloop_loop.specs.Machine.{view_of}
use Rattle.calloop_loop.specs.Roles.{only, is_callers}
use Rattle.calloop_loop.proofs.Inserting.{not_set, deadline_set}
use Rattle.calloop_loop.proofs.EventLoop.rearm.Goals as goal

pub returns-in_default : goal.returns-in_default
returns-in_default g c = rw c.in_default.ensures.list (not_set g.D.Dispatch.means g.D.Idle.IdleCallback.runs g.P.Poller.outside (view_of c.args.self.now) c.args.token c.args.deadline c.in_default.ensures.value)

pub returns : goal.returns
returns g c =
    let M = g.D.Dispatch.means in
    let is : only (is_callers M) (content_at c.args.self.now.sources c.args.token) ≡ Source c.in-Some.source = source_is (only (is_callers M) (content_at c.args.self.now.sources c.args.token)) c.in-Some.source (sym c.in-Some.ensures.value) in
    rw (c.with_error.ensures, c.end_turn-none.ensures.list)
    (deadline_set M g.D.Idle.IdleCallback.runs g.P.Poller.outside (view_of c.args.self.now) c.args.token c.args.deadline c.in-Some.source c.rearm_source-answer.new.source (with_error c.rearm_source-answer.result c.rearm_source-answer.new.failure) (view_of c.rearm_source-answer.new.self) is (rw c.in-Some.ensures.list at c.rearm_source-answer.ensures))
