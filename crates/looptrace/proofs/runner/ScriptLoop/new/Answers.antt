use Rattle.std.proofs.Common.{◌≡◌, ◌∙◌, ap, refl}
use Rattle.calloop_script.specs.declared.ScriptPoller.{ScriptPoller}
use Rattle.looptrace.proofs.runner.ScriptLoop.new.Goals as goal

pub returns-in-Ok-clause-ok : goal.returns-in-Ok-clause-ok
returns-in-Ok-clause-ok g c =
    let poller : c.in-Ok.event_loop.poll.poller ≡ c.keep_waits.new.self = c.in-Ok.ensures.poller in
    record {
      world = c.in-Ok.ensures.new.0;
      new = c.in-Ok.ensures.new.1;
      agrees = c.in-Ok.ensures.new.2;
      moment = ap (λ (p : ScriptPoller). p.moment.nanos) poller ∙ ap (λ m. m.nanos) c.in_ok-keep_waits.ensures.moment ∙ c.in_ok-poller.ensures.0;
      answers = ap (λ (p : ScriptPoller). p.answers.items) poller ∙ ap (λ a. a.items) c.in_ok-keep_waits.ensures.answers ∙ c.in_ok-poller.ensures.1;
      sources = c.new-in-Ok.ensures;
      fault = refl;
      pending = refl;
    }

pub returns-in-Err-clause-err : goal.returns-in-Err-clause-err
returns-in-Err-clause-err g c = c.from.ensures
