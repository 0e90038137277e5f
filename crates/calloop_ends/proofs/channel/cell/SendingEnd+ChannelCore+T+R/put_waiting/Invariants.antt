use Rattle.std.proofs.Common.{◌≡◌, Some}
use Rattle.std.specs.Option.{option_map}
use Rattle.std.specs.Arc.{arc_value}
use Rattle.calloop_wake.specs.Locks.{HasOneSlot, IsTaken}
use Rattle.calloop_wake.specs.Passes.{Keyed, on}
use Rattle.calloop_ends.proofs.channel.cell.SendingEnd+ChannelCore+T+R.put_waiting.Given as goal

abbrev pub invariant-loop : goal.invariant-loop
invariant-loop g l =
    (goal.iterator-loop g).can_next l.iterator' × (goal.iterator-loop g).is_finite l.iterator'
    × (l.message ≡ l.fn.message) × (l.held.shared.now.key ≡ (arc_value l.self-inside.shared).tag)
    × (l.held.seat.table_id ≡ l.held.shared.now.table_id) × HasOneSlot l.held.shared.now.table_id
    × IsTaken (λ cell. ((cell.core.name ≡ l.held.shared.now.key.name) × (cell.core.state.bound ≡ l.held.shared.now.key.bound))
    × ((place : Keyed) → on cell.core.board cell.core.state.cell.key ≡ Some place → option_map arc_value cell.hub ≡ Some place.board)) l.held.seat.me.1
