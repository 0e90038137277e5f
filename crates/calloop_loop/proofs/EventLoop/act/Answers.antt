use Rattle.std.proofs.Common.{◌≡◌, ◌∙◌, sym, ap, refl, Result, Ok, Err}
use Rattle.calloop_sources.specs.declared.sources.source.PostAction.{PostAction}
use Rattle.calloop_sources.specs.declared.sources.source.PostAction.TheVariants.{Continue, Reregister, Disable, Remove}
use Rattle.calloop_sources.specs.sources.Deeds.{Reregistered, Unregistered}
use Rattle.calloop_poll.specs.sys.Polls.{poll_view}
use Rattle.calloop_slots.specs.declared.error.Failed.{Failed}
use Rattle.calloop_slots.specs.Failures.{with_error}
use Rattle.calloop_loop.specs.Machine.{View, view_of}
use Rattle.calloop_loop.specs.Held.{is_listed}
use Rattle.calloop_loop.specs.Rules.{RegisteredBy, action_of, listing_of, unlisting_of}
use Rattle.calloop_loop.proofs.Going.{acted, acted_with, acted_leaving, batch-stepped}
use Rattle.calloop_loop.proofs.EventLoop.act.Goals as goal

pub returns-in-Ok-Continue-clause-machine : goal.returns-in-Ok-Continue-clause-machine
returns-in-Ok-Continue-clause-machine g c x =
    let v : View g.row.D.Denot g.row.D-Idle.Denot g.row.P.Denot = view_of c.args.self.now in
    let action : c.in-Ok-Continue.field-0 ≡ Continue = rw c.in-Ok-Continue.is at c.in-Ok-Continue.field-0-is in
    let is : action_of (with_error c.args.answer c.args.failure.now) c.args.self.now.pending ≡ Ok Continue = sym (c.action_of-action.ensures c.args.failure.now) ∙ ap (λ (r : Result PostAction Failed). with_error r c.args.failure.now) c.in-Ok-Continue.is ∙ ap (λ (a : PostAction). Ok a) action in
    acted g.D.Dispatch.means g.D.Idle.IdleCallback.runs g.P.Poller.outside c.args.token v c.args.source.now (with_error c.args.answer c.args.failure.now) (Ok tt) x (rw is (refl, refl, refl))

pub returns-in-Ok-Reregister-clause-machine : goal.returns-in-Ok-Reregister-clause-machine
returns-in-Ok-Reregister-clause-machine g c x =
    let M = g.D.Dispatch.means in
    let v : View g.row.D.Denot g.row.D-Idle.Denot g.row.P.Denot = view_of c.args.self.now in
    let t = c.args.token in
    let action : c.in-Ok-Reregister.field-0 ≡ Reregister = rw c.in-Ok-Reregister.is at c.in-Ok-Reregister.field-0-is in
    let is : action_of (with_error c.args.answer c.args.failure.now) c.args.self.now.pending ≡ Ok Reregister = sym (c.action_of-action.ensures c.args.failure.now) ∙ ap (λ (r : Result PostAction Failed). with_error r c.args.failure.now) c.in-Ok-Reregister.is ∙ ap (λ (a : PostAction). Ok a) action in
    acted_with M g.D.Idle.IdleCallback.runs g.P.Poller.outside (RegisteredBy M Reregistered t (is_listed t v.held.lifecycle) v.poll) (listing_of M t) t v (view_of c.register.new.self) c.args.source.now c.register.new.source (with_error c.args.answer c.args.failure.now) (with_error c.register.result c.register.new.failure) x
    (λ steps h. rw is (steps, h, refl)) c.register.ensures

pub returns-in-Ok-Reregister-clause-batch : goal.returns-in-Ok-Reregister-clause-batch
returns-in-Ok-Reregister-clause-batch g c =
    ap (λ (u : View g.row.D.Denot g.row.D-Idle.Denot g.row.P.Denot). u.poll.batch) c.register.ensures.3 ∙ batch-stepped (poll_view c.args.self.now.poll) c.register.ensures.0

pub returns-in-Ok-Disable-clause-machine : goal.returns-in-Ok-Disable-clause-machine
returns-in-Ok-Disable-clause-machine g c x =
    let M = g.D.Dispatch.means in
    let v : View g.row.D.Denot g.row.D-Idle.Denot g.row.P.Denot = view_of c.args.self.now in
    let t = c.args.token in
    let action : c.in-Ok-Disable.field-0 ≡ Disable = rw c.in-Ok-Disable.is at c.in-Ok-Disable.field-0-is in
    let is : action_of (with_error c.args.answer c.args.failure.now) c.args.self.now.pending ≡ Ok Disable = sym (c.action_of-action.ensures c.args.failure.now) ∙ ap (λ (r : Result PostAction Failed). with_error r c.args.failure.now) c.in-Ok-Disable.is ∙ ap (λ (a : PostAction). Ok a) action in
    acted_with M g.D.Idle.IdleCallback.runs g.P.Poller.outside (λ f a steps e. M.does f v.poll (Unregistered a) steps e) (unlisting_of t) t v (view_of c.unregister.new.self) c.args.source.now c.unregister.new.source (with_error c.args.answer c.args.failure.now) (with_error c.unregister.result c.unregister.new.failure) x
    (λ steps h. rw is (steps, h, refl)) c.unregister.ensures.deed

pub returns-in-Ok-Disable-clause-batch : goal.returns-in-Ok-Disable-clause-batch
returns-in-Ok-Disable-clause-batch g c =
    ap (λ (u : View g.row.D.Denot g.row.D-Idle.Denot g.row.P.Denot). u.poll.batch) c.unregister.ensures.deed.3 ∙ batch-stepped (poll_view c.args.self.now.poll) c.unregister.ensures.deed.0

pub returns-in-Ok-Remove-clause-machine : goal.returns-in-Ok-Remove-clause-machine
returns-in-Ok-Remove-clause-machine g c x =
    let v : View g.row.D.Denot g.row.D-Idle.Denot g.row.P.Denot = view_of c.args.self.now in
    let action : c.in-Ok-Remove.field-0 ≡ Remove = rw c.in-Ok-Remove.is at c.in-Ok-Remove.field-0-is in
    let is : action_of (with_error c.args.answer c.args.failure.now) c.args.self.now.pending ≡ Ok Remove = sym (c.action_of-action.ensures c.args.failure.now) ∙ ap (λ (r : Result PostAction Failed). with_error r c.args.failure.now) c.in-Ok-Remove.is ∙ ap (λ (a : PostAction). Ok a) action in
    rw c.vacate.ensures (acted_leaving g.D.Dispatch.means g.D.Idle.IdleCallback.runs g.P.Poller.outside c.args.token v c.args.source.now (with_error c.args.answer c.args.failure.now) x is)

pub returns-in-Err-clause-machine : goal.returns-in-Err-clause-machine
returns-in-Err-clause-machine g c x =
    let v : View g.row.D.Denot g.row.D-Idle.Denot g.row.P.Denot = view_of c.args.self.now in
    let e = c.args.failure.now in
    let is : action_of (with_error c.args.answer c.args.failure.now) c.args.self.now.pending ≡ Err e = sym (c.action_of-action.ensures e) ∙ ap (λ (r : Result PostAction Failed). with_error r e) c.in-Err.is in
    acted g.D.Dispatch.means g.D.Idle.IdleCallback.runs g.P.Poller.outside c.args.token v c.args.source.now (with_error c.args.answer c.args.failure.now) (Err e) x (rw is (refl, refl, refl))
