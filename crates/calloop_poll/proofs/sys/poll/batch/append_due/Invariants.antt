use Rattle.std.proofs.Common.{◌≡◌, ◌+◌, ◌≤◌, ◌++◌, length}
use Rattle.std.specs.VecDeque.{deque_len, deque_capacity}
use Rattle.calloop_slots.specs.Deadlines.{due, not_due}
use Rattle.calloop_poll.specs.sys.Polls.{timer_events}
use Rattle.calloop_poll.proofs.sys.poll.batch.append_due.Given as goal

abbrev pub invariant-loop-entry : goal.invariant-loop-entry
invariant-loop-entry l = record {
  items : l.batch.items ++ timer_events (due l.now.nanos l.wheel.entries) ≡ l.initial.batch.items ++ timer_events (due l.now.nanos l.initial.wheel.entries);
  left : not_due l.now.nanos l.wheel.entries ≡ not_due l.now.nanos l.initial.wheel.entries;
  next : l.wheel.next ≡ l.initial.wheel.next;
  room : deque_len l.batch + length l.wheel.entries ≤ deque_capacity l.batch;
}

abbrev pub decreases-loop-entry : goal.decreases-loop-entry
decreases-loop-entry l = length l.wheel.entries
