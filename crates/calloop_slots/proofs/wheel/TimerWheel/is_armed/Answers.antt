use Rattle.std.proofs.Common.{◌∙◌, ap, is_some}
use Rattle.calloop_slots.specs.Deadlines.{Deadlines, is_armed}
use Rattle.calloop_slots.specs.Wheels.{entries_of}
use Rattle.calloop_slots.proofs.Paired.{is_some-deadline_of}
use Rattle.calloop_slots.proofs.wheel.TimerWheel.is_armed.Goals as goal

pub returns : goal.returns
returns c =
    c.contains_key.ensures ∙ ap (λ o. is_some o) (c.self.invariant.same c.args.counter) ∙ is_some-deadline_of c.args.counter (entries_of c.self.inside.by_due.entries)
    ∙ ap (λ (d : Deadlines). is_armed c.args.counter d) c.self.view_is
