use Rattle.std.proofs.Common.{◌≡◌, None}
use Rattle.calloop_wake.specs.Locks.{HasOneSlot, IsTaken}
use Rattle.calloop_wake_tests.proofs.tests.channels.put_message.Given as goal

abbrev pub invariant-loop : goal.invariant-loop
invariant-loop g l = record {
  lock : l.held.shared.now.key ≡ l.lock.tag;
  seat : l.held.seat.table_id ≡ l.held.shared.now.table_id;
  slot : HasOneSlot l.held.shared.now.table_id;
  taken : IsTaken (λ cell. (cell.core.name ≡ l.held.shared.now.key.name) × (cell.core.state.cell.key ≡ None)) l.held.seat.me.1;
}
