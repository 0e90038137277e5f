use Rattle.std.proofs.Common.{refl, sym, ◌∙◌}
use Rattle.calloop_slots.specs.Slots.{content_at}
use Rattle.calloop_loop.specs.Machine.{view_of}
use Rattle.calloop_loop.specs.Roles.{is_callers}
use Rattle.calloop_loop.proofs.Roles.{seen_there, unseen, none_seen}
use Rattle.calloop_loop.proofs.Inserting.{exchanged, not_exchanged}
use Rattle.calloop_loop.proofs.EventLoop.exchange.Goals as goal

pub returns-then-not-is_callers : goal.returns-then-not-is_callers
returns-then-not-is_callers g c =
    not_exchanged g.D.Dispatch.means g.D.Idle.IdleCallback.runs g.P.Poller.outside (view_of c.args.self.now) c.args.token c.args.dispatcher
    (unseen (is_callers g.D.Dispatch.means) (content_at c.args.self.now.sources c.args.token) (sym c.if-not-is_callers.true ∙ c.is_callers.ensures))

pub returns-in-Ok : goal.returns-in-Ok
returns-in-Ok g c =
    rw (c.replace.ensures.after, c.replace.ensures.value)
    (exchanged g.D.Dispatch.means g.D.Idle.IdleCallback.runs g.P.Poller.outside (view_of c.args.self.now) c.args.token c.in-Ok.held.now c.args.dispatcher
    (seen_there (is_callers g.D.Dispatch.means) (content_at c.args.self.now.sources c.args.token) c.in-Ok.held.now (sym c.if-not-is_callers.false ∙ c.is_callers.ensures) c.in-Ok.ensures.ok))

pub returns-in-Err : goal.returns-in-Err
returns-in-Err g c =
    not_exchanged g.D.Dispatch.means g.D.Idle.IdleCallback.runs g.P.Poller.outside (view_of c.args.self.now) c.args.token c.args.dispatcher
    (none_seen (is_callers g.D.Dispatch.means) (content_at c.args.self.now.sources c.args.token) (c.in-Err.ensures.refuses.0 refl))
