use Rattle.std.proofs.Common.{◌≡◌}
use Rattle.calloop_wake.specs.Locks.{HasOneSlot, IsTaken}
use Rattle.calloop_wake_tests.proofs.tests.locks.take_turn.Given as goal

abbrev pub invariant-loop : goal.invariant-loop
invariant-loop g l = record {
  lock : l.held.shared.now.key ≡ l.lock.tag;
  seat : l.held.seat.table_id ≡ l.held.shared.now.table_id;
  slot : HasOneSlot l.held.shared.now.table_id;
  taken : IsTaken (λ tally. tally.core.name ≡ l.held.shared.now.key) l.held.seat.me.1;
}
