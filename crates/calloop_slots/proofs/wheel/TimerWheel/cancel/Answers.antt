use Rattle.calloop_slots.specs.Deadlines.{is_other}
use Rattle.calloop_slots.specs.Wheels.{entries_of}
use Rattle.calloop_slots.proofs.Sorting.{IsSorted-filter, AllBelow-filter}
use Rattle.calloop_slots.proofs.wheel.TimerWheel.cancel.Goals as goal

pub invariant_of-self : goal.invariant_of-self
invariant_of-self c =
    let xs = entries_of c.self.inside.by_due.entries in
    record {
      ordered = rw c.leave.ensures.entries (record {
        sorted = IsSorted-filter (is_other c.args.counter) xs c.self.invariant.ordered.sorted;
        below = AllBelow-filter (is_other c.args.counter) c.self.inside.counter xs c.self.invariant.ordered.below;
      });
      same = c.leave.ensures.same;
    }
