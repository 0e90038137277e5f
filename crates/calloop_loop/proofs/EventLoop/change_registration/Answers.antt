use Rattle.std.proofs.Common.{◌≡◌, sym}
use Rattle.calloop_slots.specs.declared.list.Content.TheVariants.{Source}
use Rattle.calloop_slots.specs.Slots.{content_at}
use Rattle.calloop_slots.specs.Failures.{with_error}
use Rattle.calloop_slots.proofs.Named.{source_is}
use Rattle.calloop_loop.specs.Machine.{view_of}
use Rattle.calloop_loop.specs.Roles.{only, is_callers}
use Rattle.calloop_loop.proofs.Inserting.{not_changed, enabled, updated, disabled}
use Rattle.calloop_loop.proofs.EventLoop.change_registration.Goals as goal
use Rattle.calloop_loop.proofs.EventLoop.change_registration.Goals.{in-Enable, in-Update, in-Disable}

pub returns-in_default-clause-case : goal.returns-in_default-clause-case
returns-in_default-clause-case g c = rw c.in_default.ensures.list (not_changed g.D.Dispatch.means g.D.Idle.IdleCallback.runs g.P.Poller.outside (view_of c.args.self.now) c.args.call c.args.token c.in_default.ensures.value)

pub returns-clause-case : goal.returns-clause-case
returns-clause-case g c =
    let M = g.D.Dispatch.means in
    let is : only (is_callers M) (content_at c.args.self.now.sources c.args.token) ≡ Source c.in-Some.source = source_is (only (is_callers M) (content_at c.args.self.now.sources c.args.token)) c.in-Some.source (sym c.in-Some.ensures.value) in
    rw (c.with_error.ensures, c.end_turn-none.ensures.list)
    (elim c.match-call.branch [
      | in-Enable w ↦ rw (w.in-Enable.is, w.self-is, w.source-is, w.failure-is, w.answer-is)
          (enabled M g.D.Idle.IdleCallback.runs g.P.Poller.outside (view_of c.args.self.now) c.args.token c.in-Some.source w.register-answer.new.source (with_error w.register-answer.result w.register-answer.new.failure) (view_of w.register-answer.new.self) is (rw c.in-Some.ensures.list at w.register-answer.ensures))
      | in-Update w ↦ rw (w.in-Update.is, w.self-is, w.source-is, w.failure-is, w.answer-is)
          (updated M g.D.Idle.IdleCallback.runs g.P.Poller.outside (view_of c.args.self.now) c.args.token c.in-Some.source w.register-answer-in-Update.new.source (with_error w.register-answer-in-Update.result w.register-answer-in-Update.new.failure) (view_of w.register-answer-in-Update.new.self) is (rw c.in-Some.ensures.list at w.register-answer-in-Update.ensures))
      | in-Disable w ↦ rw (w.in-Disable.is, w.self-is, w.source-is, w.failure-is, w.answer-is)
          (disabled M g.D.Idle.IdleCallback.runs g.P.Poller.outside (view_of c.args.self.now) c.args.token c.in-Some.source w.unregister-answer.new.source (with_error w.unregister-answer.result w.unregister-answer.new.failure) (view_of w.unregister-answer.new.self) is (rw c.in-Some.ensures.list at w.unregister-answer.ensures.deed))
    ])
