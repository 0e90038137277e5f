use Rattle.std.proofs.Common.{◌≡◌, Some}
use Rattle.std.specs.Option.{option_map}
use Rattle.std.specs.Arc.{arc_value}
use Rattle.calloop_wake.specs.Locks.{HasOneSlot, IsTaken}
use Rattle.calloop_wake.specs.Passes.{Keyed, on}
use Rattle.calloop_ends.proofs.channel.cell.ReceivingEnd+ChannelCore+T+R.take_waiting.Given as goal

abbrev pub invariant-loop : goal.invariant-loop
invariant-loop g l =
    (goal.iterator-loop g).can_next l.iterator' × (goal.iterator-loop g).is_finite l.iterator'
    × (l.tally ≡ l.fn.self.tally) × (l.held.shared.now.key ≡ l.fn.self.tag) × (l.tally.name ≡ l.held.shared.now.key.name)
    × (l.held.seat.table_id ≡ l.held.shared.now.table_id) × HasOneSlot l.held.shared.now.table_id
    × IsTaken (λ cell. ((cell.core.name ≡ l.held.shared.now.key.name) × (cell.core.state.bound ≡ l.held.shared.now.key.bound))
    × ((place : Keyed) → on cell.core.board cell.core.state.cell.key ≡ Some place → option_map arc_value cell.hub ≡ Some place.board)) l.held.seat.me.1
