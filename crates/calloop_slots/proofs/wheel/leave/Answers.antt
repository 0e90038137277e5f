use Rattle.std.proofs.Common.{◌∙◌, sym}
use Rattle.calloop_slots.specs.Wheels.{entries_of}
use Rattle.calloop_slots.proofs.Paired.{entries_of-remove, removed_none, same-left, same-trimmed}
use Rattle.calloop_slots.proofs.wheel.leave.Goals as goal

pub returns-in-Some-clause-entries : goal.returns-in-Some-clause-entries
returns-in-Some-clause-entries c =
    rw c.remove-in-Some.ensures.entries
    (entries_of-remove c.args.counter c.in-Some.deadline c.args.by_due.now.entries c.requires.sorted (sym (c.requires.same c.args.counter) ∙ sym c.in-Some.ensures.value))

pub returns-in-Some-clause-same : goal.returns-in-Some-clause-same
returns-in-Some-clause-same c =
    rw (returns-in-Some-clause-entries c)
    (same-trimmed _ c.remove.new.self.entries c.trim.new.by_counter.entries c.trim.ensures
    (same-left c.args.by_counter.now.entries c.remove.new.self.entries c.args.counter (entries_of c.args.by_due.now.entries) c.requires.same c.remove.ensures.updates.0))

pub returns-in_default-clause-entries : goal.returns-in_default-clause-entries
returns-in_default-clause-entries c =
    removed_none c.args.counter c.args.by_due.now.entries (sym (c.requires.same c.args.counter) ∙ sym c.in_default.ensures.value)
