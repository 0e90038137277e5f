use Rattle.std.proofs.Common.{◌≡◌, ◌∙◌, sym, ap, Result, Ok}
use Rattle.calloop_sources.specs.declared.sources.source.PostAction.{PostAction}
use Rattle.calloop_sources.specs.declared.sources.source.PostAction.TheVariants.{Continue}
use Rattle.calloop_slots.specs.declared.error.Failed.{Failed}
use Rattle.calloop_slots.specs.Failures.{with_error}
use Rattle.calloop_loop.specs.Machine.{view_of}
use Rattle.calloop_loop.specs.Rules.{action_of}
use Rattle.calloop_loop.proofs.Standing.{stayed}
use Rattle.calloop_loop.proofs.EventLoop.go_on.Goals as goal

pub returns-in-Ok-Continue-clause-machine : goal.returns-in-Ok-Continue-clause-machine
returns-in-Ok-Continue-clause-machine g c d x is =
    let action : c.in-Ok-Continue.field-0 ≡ Continue = c.in-Ok-Continue.field-0-is in
    let goes : action_of (with_error c.args.answer c.args.failure.now) c.args.self.now.pending ≡ Ok Continue = sym (c.action_of.ensures c.args.failure.now) ∙ ap (λ (r : Result PostAction Failed). with_error r c.args.failure.now) c.in-Ok-Continue.is ∙ ap (λ (a : PostAction). Ok a) action in
    stayed g.D.Dispatch.means g.D.Idle.IdleCallback.runs g.P.Poller.outside c.args.token (view_of c.args.self.now) d (with_error c.args.answer c.args.failure.now) x is (c.has_none.ensures c.if-has_none.true) goes
