use Rattle.std.proofs.Common.{false, rules, refl, inl, ap}
use Rattle.calloop_script.specs.ScriptCalls.{with_failing}
use Rattle.calloop_script.specs.declared.calls.ScriptKind.{ScriptKind}
use Rattle.calloop_script.proofs.ScriptPoller.call.Goals as goal

pub returns-clause-called : goal.returns-clause-called
returns-clause-called c =
    rw c.take_failing.ensures.poller (record {
      noted = inl (search rules, ap (λ (kind : ScriptKind). with_failing kind false c.args.self.now.failing) c.kind.ensures, rw (← c.kind.ensures, ← c.if-take_failing.ensures.fails) refl);
      moment = refl;
      answers = refl;
      waits = refl;
      shown = refl;
      signal = refl;
    })
