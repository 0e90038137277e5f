use Rattle.std.proofs.Common.{◌≡◌, refl, sym, ap, ◌∙◌}
use Rattle.mio.specs.Events.{items}
use Rattle.calloop_mio.specs.declared.MioPoller.{MioPoller}
use Rattle.calloop_poll.specs.sys.Pollers.{failure_of}
use Rattle.calloop_mio.specs.SystemEvents.{told_events}
use Rattle.calloop_mio.proofs.MioPollerPoller.wait.Goals as goal

with_faults : {C : Type 0} (p q : MioPoller C) → q ≡ record p { poll = q.poll; found = q.found } → q ≡ record p { poll = q.poll; found = q.found; faults = q.faults }
with_faults {C} p q e = e ∙ ap (λ n. record p { poll = q.poll; found = q.found; faults = n }) (sym (ap (λ (r : MioPoller C). r.faults) e))

pub returns-in-Ok-clause-waits : goal.returns-in-Ok-clause-waits
returns-in-Ok-clause-waits g c =
    (told_events (items c.find-answer.new.self.found.events), record { told = refl; fault = tt; kind = sym (ap failure_of c.in-Ok.is) ∙ c.find-answer.ensures.failed; poller = with_faults c.args.self.now c.find-answer.new.self c.find-answer.ensures.poller }, c.append_to.ensures.items, c.append_to.ensures.few)
