use Rattle.std.proofs.Common.{◌≡◌, ◌+◌, ◌≤◌, ◌++◌, drop, map}
use Rattle.std.specs.VecDeque.{deque_len, deque_capacity}
use Rattle.calloop_wake.specs.Boards.{IsRising}
use Rattle.calloop_poll.specs.sys.Polls.{posted_events}
use Rattle.calloop_poll.specs.sys.Batches.{key_of_pass}
use Rattle.calloop_poll.proofs.sys.poll.batch.append_posted.Given as goal

abbrev pub invariant-loop-i : goal.invariant-loop-i
invariant-loop-i l = record {
  items : l.batch.items ++ posted_events (map key_of_pass (drop l.i l.passes.items)) ≡ l.initial.batch.items ++ posted_events (map key_of_pass (drop l.first l.passes.items));
  tokens : IsRising (map key_of_pass (drop l.i l.passes.items));
  len : deque_len l.batch + l.first ≤ deque_len l.initial.batch + l.i;
  capacity : deque_capacity l.batch ≡ deque_capacity l.initial.batch;
}
