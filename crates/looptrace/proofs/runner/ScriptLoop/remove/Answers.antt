use Rattle.std.proofs.Common.{ap, subst, refl}
use Rattle.calloop_script.specs.declared.ScriptPoller.{ScriptPoller}
use Rattle.calloop_loop.specs.declared.LoopCall.TheVariants.{Remove as RemoveCall}
use Rattle.calloop_loop.specs.declared.LoopAnswer.TheVariants.{Removed}
use Rattle.calloop_loop.specs.Machine.{View, view_of}
use Rattle.looptrace.specs.Sources.{Source}
use Rattle.looptrace.specs.Runs.{Calls, removed_text}
use Rattle.looptrace.proofs.runner.ScriptLoop.remove.Goals as goal

pub returns-clause-ok : goal.returns-clause-ok
returns-clause-ok g c =
    let token = c.in-Some.token in
    let after : View Source (Unit {0}) ScriptPoller = view_of c.remove-removed.new.self.inner.now in
    let call : Calls (RemoveCall token) (Removed c.remove-removed.result) (view_of c.args.self.now.event_loop) after =
    subst (λ (v : View Source (Unit {0}) ScriptPoller). Calls (RemoveCall token) (Removed c.remove-removed.result) v after) (ap view_of c.handle.ensures.value) c.remove-removed.ensures.case in (
      removed_text c.remove-removed.result,
      c.in_ok-append_removed.ensures,
      rw (← c.in-Some.ensures) (c.remove-removed.result, call, refl, refl, refl, refl),
    )
