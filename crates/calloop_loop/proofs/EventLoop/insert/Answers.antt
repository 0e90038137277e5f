use Rattle.std.proofs.Common.{◌≡◌, refl, ap}
use Rattle.std.specs.Arc.{arc_value}
use Rattle.calloop_slots.specs.Slots.{claim_error}
use Rattle.calloop_poll.specs.sys.Polls.{poll_view}
use Rattle.calloop_poll.specs.declared.signal.LoopSignal.{LoopSignal}
use Rattle.calloop_loop.specs.declared.warnings.Warnings.{Warnings}
use Rattle.calloop_loop.specs.Machine.{view_of}
use Rattle.calloop_loop.proofs.Inserting.{not_claimed, not_registered, registered}
use Rattle.calloop_loop.proofs.EventLoop.insert.Goals as goal

pub returns-in-Err-clause-case : goal.returns-in-Err-clause-case
returns-in-Err-clause-case g c =
    let others = c.in-Err.ensures.others in
    let same : view_of c.claim.new.self ≡ view_of c.args.self.now = rw (c.in-Err.ensures.err.1, others.0, others.1, others.2, others.3, others.4, others.5, others.6) refl in
    rw c.from.ensures (not_claimed g.D.Dispatch.means g.D.Idle.IdleCallback.runs g.P.Poller.outside (view_of c.args.self.now) c.args.dispatcher (claim_error c.in-Err.refusal) (view_of c.claim.new.self) (rw c.needs_extra_lifecycle_events-needed.ensures at c.in-Err.ensures.err.0) same)

pub returns-in-Ok-register-clause-case : goal.returns-in-Ok-register-clause-case
returns-in-Ok-register-clause-case g c =
    let others = c.in-Ok.ensures.others in
    rw (c.end_turn-none.ensures.list, c.in-Ok.ensures.ok.2, c.enter.ensures, c.needs_extra_lifecycle_events-needed.ensures, others.1, others.2, others.3)
    (registered g.D.Dispatch.means g.D.Idle.IdleCallback.runs g.P.Poller.outside (view_of c.args.self.now) c.args.dispatcher c.register.new.self c.in-Ok.token c.register.new.factory (poll_view c.register.new.poll)
    (arc_value c.claim.new.self.signal.shared).name c.claim.new.self.warnings.errors.items c.claim.new.self.stops (ap (λ (s : LoopSignal). (arc_value s.shared).name) others.5) (ap (λ (w : Warnings). w.errors.items) others.4) others.6 c.in-Ok.ensures.ok.0 c.in-Ok.ensures.ok.1 (rw (c.new-factory.ensures, c.in-Ok-register.is, others.0) at c.register.ensures))

pub returns-in-Err-register-clause-case : goal.returns-in-Err-register-clause-case
returns-in-Err-register-clause-case g c =
    let others = c.in-Ok.ensures.others in
    rw (c.vacate.ensures, c.in-Ok.ensures.ok.2, others.1, others.2, others.3, others.4, others.5, others.6)
    (not_registered g.D.Dispatch.means g.D.Idle.IdleCallback.runs g.P.Poller.outside (view_of c.args.self.now) c.args.dispatcher c.register.new.self c.register.new.failure c.in-Ok.token c.register.new.factory (poll_view c.register.new.poll)
    c.in-Ok.ensures.ok.0 c.in-Ok.ensures.ok.1 (rw (c.new-factory.ensures, c.in-Err-register.is, others.0) at c.register.ensures))
