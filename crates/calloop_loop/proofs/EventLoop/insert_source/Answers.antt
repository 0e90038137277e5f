use Rattle.std.proofs.Common.{◌≡◌, List, refl, ap, sym, ◌∙◌}
use Rattle.calloop_slots.specs.declared.list.Content.TheVariants.{Source}
use Rattle.calloop_slots.specs.declared.list.Slot.{Slot}
use Rattle.calloop_slots.specs.Slots.{after_turn, after_claim, claim_error}
use Rattle.std.specs.Arc.{arc_value}
use Rattle.calloop_poll.specs.sys.Polls.{poll_view}
use Rattle.calloop_poll.specs.declared.signal.LoopSignal.{LoopSignal}
use Rattle.calloop_loop.specs.declared.warnings.Warnings.{Warnings}
use Rattle.calloop_loop.specs.Machine.{View, view_of}
use Rattle.calloop_loop.proofs.Inserting.{not_claimed, not_registered, registered}
use Rattle.calloop_loop.proofs.Held.{held_reg}
use Rattle.calloop_loop.proofs.EventLoop.insert_source.Goals as goal

pub returns-in-Err-clause-case : goal.returns-in-Err-clause-case
returns-in-Err-clause-case g c =
    let others = c.in-Err.ensures.others in
    let same : view_of c.claim.new.self ≡ view_of c.args.self.now = rw (c.in-Err.ensures.err.1, others.0, others.1, others.2, others.3, others.4, others.5, others.6) refl in
    rw c.from.ensures (not_claimed g.D.Dispatch.means g.D.Idle.IdleCallback.runs g.P.Poller.outside (view_of c.args.self.now) (g.D.Choice.held (record { source = c.args.source; callback = c.args.callback })) (claim_error c.in-Err.refusal) (view_of c.claim.new.self)
    (rw (sym (g.met.D.Hold.held_means.needs (record { source = c.args.source; callback = c.args.callback }) ∙ c.needs_extra_lifecycle_events-needed.ensures c.args.source)) at c.in-Err.ensures.err.0) same)

pub returns-in-Ok-register-clause-case : goal.returns-in-Ok-register-clause-case
returns-in-Ok-register-clause-case g c =
    let v : View g.row.D.Denot g.row.D-Idle.Denot g.row.P.Denot = view_of c.args.self.now in
    let others = c.in-Ok.ensures.others in
    let needs = sym (g.met.D.Hold.held_means.needs (record { source = c.args.source; callback = c.args.callback }) ∙ c.needs_extra_lifecycle_events-needed.ensures c.args.source) in
    let slots : c.end_turn-none.new.self ≡ after_turn (Source (g.D.Choice.held (record { source = c.register.new.self; callback = c.args.callback }))) c.in-Ok.token (after_claim v.slots) =
    c.end_turn-none.ensures.list
    ∙ ap (λ (s : List (Slot g.row.D.Denot)). after_turn (Source c.hold-held.result) c.in-Ok.token s) c.in-Ok.ensures.ok.2
    ∙ ap (λ (d : g.row.D.Denot). after_turn (Source d) c.in-Ok.token (after_claim v.slots)) c.hold-held.ensures in
    rw (slots, c.enter.ensures)
    (rw (needs, others.1)
    (rw (others.2, others.3)
    (registered g.D.Dispatch.means g.D.Idle.IdleCallback.runs g.P.Poller.outside (view_of c.args.self.now) (g.D.Choice.held (record { source = c.args.source; callback = c.args.callback })) (g.D.Choice.held (record { source = c.register.new.self; callback = c.args.callback }))
    c.in-Ok.token c.register.new.factory (poll_view c.register.new.poll)
    (arc_value c.claim.new.self.signal.shared).name c.claim.new.self.warnings.errors.items c.claim.new.self.stops (ap (λ (s : LoopSignal). (arc_value s.shared).name) others.5) (ap (λ (w : Warnings). w.errors.items) others.4) others.6 c.in-Ok.ensures.ok.0 c.in-Ok.ensures.ok.1
    (let r = rw (c.new-factory.ensures, c.in-Ok-register.is, others.0) at c.register.ensures in held_reg g.P.Poller.outside g.D.Choice.held _ g.D.Dispatch.means g.met.D.Hold.held_means (record { source = c.args.source; callback = c.args.callback }) (record { source = c.register.new.self; callback = c.args.callback }) _ _ _ _ _ (r.0, (r.1, refl), r.2)))))

pub returns-in-Err-register-clause-case : goal.returns-in-Err-register-clause-case
returns-in-Err-register-clause-case g c =
    let others = c.in-Ok.ensures.others in
    rw (c.vacate.ensures, c.in-Ok.ensures.ok.2, others.1, others.2, others.3, others.4, others.5, others.6)
    (not_registered g.D.Dispatch.means g.D.Idle.IdleCallback.runs g.P.Poller.outside (view_of c.args.self.now) (g.D.Choice.held (record { source = c.args.source; callback = c.args.callback })) (g.D.Choice.held (record { source = c.register.new.self; callback = c.args.callback })) c.in-Err-register.error
    c.in-Ok.token c.register.new.factory (poll_view c.register.new.poll) c.in-Ok.ensures.ok.0 c.in-Ok.ensures.ok.1
    (let r = rw (c.new-factory.ensures, c.in-Err-register.is, others.0) at c.register.ensures in held_reg g.P.Poller.outside g.D.Choice.held _ g.D.Dispatch.means g.met.D.Hold.held_means (record { source = c.args.source; callback = c.args.callback }) (record { source = c.register.new.self; callback = c.args.callback }) _ _ _ _ _ (r.0, (r.1, refl), r.2)))
