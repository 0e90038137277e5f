use Rattle.std.proofs.Common.{◌≡◌, ◌+◌, ◌++◌, drop}
use Rattle.std.specs.VecDeque.{deque_len, deque_capacity}
use Rattle.calloop_poll.specs.sys.Polls.{own_events}
use Rattle.calloop_poll.proofs.sys.poll.batch.append_own.Given as goal

abbrev pub invariant-loop-event : goal.invariant-loop-event
invariant-loop-event l = record {
  items : l.batch.items ++ own_events (drop l.event-index l.given) ≡ l.initial.batch.items ++ own_events l.given;
  len : deque_len l.batch ≡ deque_len l.initial.batch + l.event-index;
  capacity : deque_capacity l.batch ≡ deque_capacity l.initial.batch;
}
