-- What the loop is told of the events that the OS found, as calloop's poller tells of its own.
use Rattle.std.specs.Prelude.{ℕ, ◌||◌, List, map}
use Rattle.std.specs.List.{filter}
use Rattle.mio.specs.declared.event.event.Event.{Event}
use Rattle.mio.specs.Event as found
use Rattle.calloop_poll.specs.declared.sys.Readiness.{Readiness}
use Rattle.calloop_poll.specs.sys.Polls.{is_for_a_token}

-- a socket that failed, or whose peer hung up, is ready for both, to an error or an end, as in calloop, which doesn't tell
-- of an error
abbrev pub readiness_of : Event → Readiness
readiness_of event = record {
  readable = found.is_readable event || found.is_read_closed event || found.is_error event;
  writable = found.is_writable event || found.is_write_closed event || found.is_error event;
  error = found.is_error event;
}

abbrev pub told_event : Event → ℕ × Readiness
told_event event = ((found.event_token event).0, readiness_of event)

-- the events of sockets, in the OS order; the event of the poller's own waker is left out
abbrev pub told_events : List Event → List (ℕ × Readiness)
told_events events = filter is_for_a_token (map told_event events)
