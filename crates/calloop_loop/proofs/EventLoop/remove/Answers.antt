use Rattle.std.proofs.Common.{◌≡◌, sym, ap, ◌∙◌}
use Rattle.calloop_slots.specs.declared.list.Content.TheVariants.{Source, Vacant}
use Rattle.calloop_slots.specs.Slots.{content_at, after_turn}
use Rattle.calloop_slots.specs.Failures.{with_error}
use Rattle.calloop_slots.proofs.Named.{source_is}
use Rattle.calloop_loop.specs.Machine.{view_of}
use Rattle.calloop_loop.specs.Roles.{only, is_callers}
use Rattle.calloop_loop.proofs.Inserting.{not_removed, removed, vacated}
use Rattle.calloop_loop.proofs.EventLoop.remove.Goals as goal

pub returns-in_err-source-clause-case : goal.returns-in_err-source-clause-case
returns-in_err-source-clause-case g c = rw (c.from_residual.ensures, c.in_err-source.ensures.list) (not_removed g.D.Dispatch.means g.D.Idle.IdleCallback.runs g.P.Poller.outside (view_of c.args.self.now) c.args.token c.in_err-source.ensures.value)

pub returns-clause-case : goal.returns-clause-case
returns-clause-case g c =
    let is : only (is_callers g.D.Dispatch.means) (content_at c.args.self.now.sources c.args.token) ≡ Source c.in_ok-source.source = source_is (only (is_callers g.D.Dispatch.means) (content_at c.args.self.now.sources c.args.token)) c.in_ok-source.source (sym c.in_ok-source.ensures.value) in
    removed g.D.Dispatch.means g.D.Idle.IdleCallback.runs g.P.Poller.outside (view_of c.args.self.now) c.args.token c.in_ok-source.source c.unregister-told.new.source (with_error c.unregister-told.result c.unregister-told.new.failure) (view_of c.unregister-told.new.self) c.note_failure.ensures.0
    c.note_failure.new.self.errors.items c.note_failure.ensures.1 is
    (rw (c.vacate.ensures, c.in_ok-source.ensures.list) at c.unregister-told.ensures.deed)

pub returns-clause-slots : goal.returns-clause-slots
returns-clause-slots g c =
    let is : only (is_callers g.D.Dispatch.means) (content_at c.args.self.now.sources c.args.token) ≡ Source c.in_ok-source.source = source_is (only (is_callers g.D.Dispatch.means) (content_at c.args.self.now.sources c.args.token)) c.in_ok-source.source (sym c.in_ok-source.ensures.value) in
    c.unregister-told.ensures.slots ∙ c.vacate.ensures ∙ ap (after_turn Vacant c.args.token) c.in_ok-source.ensures.list
    ∙ vacated g.D.Dispatch.means g.D.Idle.IdleCallback.runs g.P.Poller.outside (view_of c.args.self.now) c.args.token c.in_ok-source.source is
