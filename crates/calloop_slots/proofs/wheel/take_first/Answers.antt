use Rattle.calloop_slots.proofs.Paired.{same-popped, same-trimmed}
use Rattle.calloop_slots.proofs.wheel.take_first.Goals as goal

pub returns-clause-same : goal.returns-clause-same
returns-clause-same c =
    same-trimmed _ c.remove.new.self.entries c.trim.new.by_counter.entries c.trim.ensures
    (same-popped c.args.by_counter.now.entries c.remove.new.self.entries (c.in_ok-due.due, c.in_ok-due.token) c.args.by_due.now.entries c.pop_first.new.self.entries c.in_ok-due.ensures.removal c.requires.sorted c.requires.same c.remove.ensures.updates.0)
