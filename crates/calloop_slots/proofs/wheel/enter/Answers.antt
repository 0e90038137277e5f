use Rattle.calloop_slots.specs.Wheels.{entry_at, entries_of}
use Rattle.calloop_slots.proofs.Paired.{entries_of-insert, same-entered, same-back}
use Rattle.calloop_slots.proofs.wheel.enter.Goals as goal

pub returns-in-Ok-clause-ok : goal.returns-in-Ok-clause-ok
returns-in-Ok-clause-ok c = rw c.in-Ok.ensures.entries (entries_of-insert c.args.due c.args.token c.args.by_due.now.entries c.requires.free)

pub returns-in-Ok-clause-same : goal.returns-in-Ok-clause-same
returns-in-Ok-clause-same c =
    rw c.in-Ok.ensures.entries (rw (entries_of-insert c.args.due c.args.token c.args.by_due.now.entries c.requires.free)
    (same-entered c.args.by_counter.now.entries c.insert.new.self.entries (entry_at (c.args.due, c.args.token)) (entries_of c.args.by_due.now.entries) c.requires.free c.requires.same c.in_ok-insert.ensures.updates.0))

pub returns-in-Err-clause-same : goal.returns-in-Err-clause-same
returns-in-Err-clause-same c =
    rw c.in-Err.ensures.err
    (same-back c.args.by_counter.now.entries c.insert.new.self.entries c.remove.new.self.entries (entry_at (c.args.due, c.args.token)) (entries_of c.args.by_due.now.entries) c.requires.free c.requires.same c.in_ok-insert.ensures.updates.0 c.remove.ensures.updates.0)
