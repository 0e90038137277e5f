use Rattle.std.proofs.Common.{arith, subst, sym, ◌≡◌, false}
use Rattle.calloop_slots.specs.Deadlines.{Deadlines, is_armed, has_counter, entry_of}
use Rattle.calloop_slots.specs.Wheels.{entries_of}
use Rattle.calloop_slots.proofs.Sorting.{IsSorted-inserted, AllBelow-inserted}
use Rattle.calloop_slots.proofs.wheel.TimerWheel.insert_reuse.Goals as goal

pub invariant_of-self-2 : goal.invariant_of-self-2
invariant_of-self-2 c =
    let xs = entries_of c.self.inside.by_due.entries in
    let free : has_counter c.args.counter xs ≡ false = subst (λ (d : Deadlines). is_armed c.args.counter d ≡ false) (sym c.self.view_is) c.requires in
    record {
      ordered = rw c.in_ok-enter.ensures.ok (record {
        sorted = IsSorted-inserted (entry_of c.args.counter c.args.deadline c.args.token) xs free c.self.invariant.ordered.sorted;
        below = AllBelow-inserted c.self.inside.counter _ xs (omega arith) c.self.invariant.ordered.below;
      });
      same = c.enter.ensures.same;
    }
