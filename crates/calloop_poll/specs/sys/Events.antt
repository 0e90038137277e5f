-- The events of one registration that a source is told of after a wait. calloop's `EventIterator` yields the events of
-- the poller and the timers; here posted keys come first.
use Rattle.std.specs.Prelude.{List, map, filter, drop, Bool, ◌&&◌, nat_eq}
use Rattle.calloop_slots.specs.declared.token.Token.{Token}
use Rattle.calloop_slots.specs.declared.token.RegistrationToken.{RegistrationToken}
use Rattle.calloop_poll.specs.declared.sys.Readiness.{Readiness}
use Rattle.calloop_poll.specs.declared.sys.poll.Pending.{Pending}
use Rattle.calloop_poll.specs.declared.sys.events.EventIterator.{EventIterator}

abbrev pub is_event_of : RegistrationToken → Pending → Bool
is_event_of registration e = nat_eq e.token.slot registration.slot && nat_eq e.token.version registration.version

abbrev pub event_given : Pending → Readiness × Token
event_given e = (e.readiness, e.token)

abbrev pub events_of : RegistrationToken → List Pending → List (Readiness × Token)
events_of registration batch = map event_given (filter (is_event_of registration) batch)

-- the events that an iterator has still to yield
abbrev pub events_left : EventIterator → List (Readiness × Token)
events_left i = events_of (record { slot = i.slot; version = i.version }) (drop i.at i.batch.now.items)
