use Rattle.std.proofs.Common.{arith, ◌+◌}
use Rattle.calloop_slots.specs.Wheels.{entries_of}
use Rattle.calloop_slots.proofs.Sorting.{IsSorted-inserted, AllBelow-inserted, AllBelow-more, AllBelow-free}
use Rattle.calloop_slots.proofs.wheel.TimerWheel.insert.Goals as goal

pub enter-requires-clause-free : goal.enter-requires-clause-free
enter-requires-clause-free c = AllBelow-free c.self.inside.counter (entries_of c.self.inside.by_due.entries) c.self.invariant.ordered.below

pub invariant_of-self-2 : goal.invariant_of-self-2
invariant_of-self-2 c =
    let xs = entries_of c.self.inside.by_due.entries in
    record {
      ordered = rw c.in_ok-enter.ensures.ok (record {
        sorted = IsSorted-inserted _ xs (AllBelow-free c.self.inside.counter xs c.self.invariant.ordered.below) c.self.invariant.ordered.sorted;
        below = AllBelow-inserted (c.self.inside.counter + 1) _ xs (omega arith) (AllBelow-more c.self.inside.counter (c.self.inside.counter + 1) xs (omega arith) c.self.invariant.ordered.below);
      });
      same = c.enter.ensures.same;
    }
