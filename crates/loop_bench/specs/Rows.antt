-- The rows: their names, and what they count. Calloop has no such program.
use Rattle.std.specs.Prelude.{ℕ, ◌*◌, min, Bool, List, nat_eq, codes}
use Rattle.std.specs.Cmp.Lexicographic.{pointwise}
use Rattle.loop_bench.specs.declared.row.Kind.{Kind}
use Rattle.loop_bench.specs.declared.row.Kind.TheVariants.{
  RingAndDispatch,
  TimersFired,
  TimersCancelled,
  InsertAndRemove,
  IdleDispatch,
  IdleBesidePings,
  PingsServed,
  PingsRung,
  ReadableSockets,
  EdgeSockets,
  LevelSockets,
  MessagesServed,
  BoundedMessagesServed,
  ThreadMessagesServed,
  BoundedThreadMessagesServed,
  ReadyFutures,
  ThreadWoken,
  TimeoutsReady,
  TimerNear,
  WaitingSenders,
}

abbrev pub name_of : Kind → List ℕ
name_of RingAndDispatch = codes "ring_and_dispatch"
name_of TimersFired = codes "timers_fired"
name_of TimersCancelled = codes "timers_cancelled"
name_of InsertAndRemove = codes "insert_and_remove"
name_of IdleDispatch = codes "idle_dispatch"
name_of IdleBesidePings = codes "idle_beside_pings"
name_of PingsServed = codes "pings_served"
name_of PingsRung = codes "pings_rung"
name_of ReadableSockets = codes "readable_sockets"
name_of EdgeSockets = codes "edge_sockets"
name_of LevelSockets = codes "level_sockets"
name_of MessagesServed = codes "messages_served"
name_of BoundedMessagesServed = codes "bounded_messages_served"
name_of ThreadMessagesServed = codes "thread_messages_served"
name_of BoundedThreadMessagesServed = codes "bounded_thread_messages_served"
name_of ReadyFutures = codes "ready_futures"
name_of ThreadWoken = codes "thread_woken"
name_of TimeoutsReady = codes "timeouts_ready"
name_of TimerNear = codes "timer_near"
name_of WaitingSenders = codes "waiting_senders"

abbrev pub is_named : List ℕ → Kind → Bool
is_named name kind = pointwise nat_eq (name_of kind) name

-- the number of steps by which the time of a row is divided: each timer that fires is one, each ping that is inserted and served,
-- each socket that is read, each message, each future that is ready, and each wake
abbrev pub operations_of : Kind → (count size : ℕ) → ℕ
operations_of RingAndDispatch count size = count
operations_of TimersFired count size = count * size
operations_of TimersCancelled count size = count
operations_of InsertAndRemove count size = count
operations_of IdleDispatch count size = count
operations_of IdleBesidePings count size = count
operations_of PingsServed count size = count * size
operations_of PingsRung count size = count * size
operations_of ReadableSockets count size = count
operations_of EdgeSockets count size = count * size
operations_of LevelSockets count size = count * size
operations_of MessagesServed count size = count * size
operations_of BoundedMessagesServed count size = count * size
operations_of ThreadMessagesServed count size = count * size
operations_of BoundedThreadMessagesServed count size = count * size
operations_of ReadyFutures count size = count * size
operations_of ThreadWoken count size = count * size
operations_of TimeoutsReady count size = count * size
operations_of TimerNear count size = count
operations_of WaitingSenders count size = count * size

-- the number of callbacks that a row calls: one for each ring, one for each timer that fires, one for each socket that a wait
-- tells of, one for each message, and one for each future
abbrev pub calls_of : Kind → (count size : ℕ) → ℕ
calls_of RingAndDispatch count size = count
calls_of TimersFired count size = count * size
calls_of TimersCancelled count size = 0
calls_of InsertAndRemove count size = 0
calls_of IdleDispatch count size = 0
calls_of IdleBesidePings count size = 0
calls_of PingsServed count size = count * size
calls_of PingsRung count size = count * size
calls_of ReadableSockets count size = count * min size 1024
calls_of EdgeSockets count size = count * size
calls_of LevelSockets count size = count * size
calls_of MessagesServed count size = count * size
calls_of BoundedMessagesServed count size = count * size
calls_of ThreadMessagesServed count size = count * size
calls_of BoundedThreadMessagesServed count size = count * size
calls_of ReadyFutures count size = count * size
calls_of ThreadWoken count size = count
calls_of TimeoutsReady count size = count * size
calls_of TimerNear count size = count
calls_of WaitingSenders count size = count * size
