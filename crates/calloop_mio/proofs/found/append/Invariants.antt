use Rattle.std.proofs.Common.{◌≡◌, ◌+◌, ◌≤◌, ◌++◌, drop, vec_len, vec_capacity}
use Rattle.calloop_mio.specs.SystemEvents.{told_events}
use Rattle.calloop_mio.proofs.found.append.Given as goal

abbrev pub invariant-loop-event : goal.invariant-loop-event
invariant-loop-event l = record {
  items : l.events.items ++ told_events (drop l.event-index l.found) ≡ l.initial.events.items ++ told_events l.found;
  len : vec_len l.events ≤ vec_len l.initial.events + l.event-index;
  capacity : vec_capacity l.events ≡ vec_capacity l.initial.events;
}
