use Rattle.std.proofs.Common.{◌≡◌, sym}
use Rattle.calloop_slots.specs.declared.list.Content.TheVariants.{Source}
use Rattle.calloop_slots.specs.Slots.{content_at}
use Rattle.calloop_slots.proofs.Named.{source_is}
use Rattle.calloop_loop.specs.Machine.{view_of}
use Rattle.calloop_loop.specs.Roles.{only, is_adapter}
use Rattle.calloop_loop.proofs.Inserting.{not_released, kept_back, released}
use Rattle.calloop_loop.proofs.EventLoop.release.Goals as goal

pub returns-in_default : goal.returns-in_default
returns-in_default g c = rw c.in_default.ensures.list (not_released g.D.Dispatch.means g.D.Idle.IdleCallback.runs g.P.Poller.outside (view_of c.args.self.now) c.args.token c.in_default.ensures.value)

pub returns-in-Ok : goal.returns-in-Ok
returns-in-Ok g c =
    let is : only (is_adapter g.D.Dispatch.means) (content_at c.args.self.now.sources c.args.token) ≡ Source c.in-Some.source = source_is (only (is_adapter g.D.Dispatch.means) (content_at c.args.self.now.sources c.args.token)) c.in-Some.source (sym c.in-Some.ensures.value) in
    rw c.vacate.ensures
    (released g.D.Dispatch.means g.D.Idle.IdleCallback.runs g.P.Poller.outside (view_of c.args.self.now) c.args.token c.in-Some.source c.unregister.new.source (view_of c.unregister.new.self) is (rw c.in-Some.ensures.list at c.in-Ok.ensures.deed))

pub returns-in-Err : goal.returns-in-Err
returns-in-Err g c =
    let is : only (is_adapter g.D.Dispatch.means) (content_at c.args.self.now.sources c.args.token) ≡ Source c.in-Some.source = source_is (only (is_adapter g.D.Dispatch.means) (content_at c.args.self.now.sources c.args.token)) c.in-Some.source (sym c.in-Some.ensures.value) in
    rw c.end_turn-none.ensures.list
    (kept_back g.D.Dispatch.means g.D.Idle.IdleCallback.runs g.P.Poller.outside (view_of c.args.self.now) c.args.token c.in-Some.source c.unregister.new.source c.unregister.new.failure (view_of c.unregister.new.self) is (rw c.in-Some.ensures.list at c.in-Err.ensures.deed))
