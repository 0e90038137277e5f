-- Small states in which something is lost, which `nothing_is_lost` rules out.
use Rattle.std.specs.Prelude.{ℕ, zero, suc, List, [], ◌∷◌, Bool, true, false, if◌then◌else◌, Option, Some, None}
use Rattle.calloop_wake.specs.Cells.{Cell, fresh}
use Rattle.calloop_wake.specs.Channels.{fresh_channel}
use Rattle.calloop_wake_laws.specs.ChannelKind.{ChannelPast, Telling, unused_channel}
use Rattle.calloop_wake.specs.declared.tasks.Phase.TheVariants.{Queued, Polling, Woken}
use Rattle.calloop_wake.specs.declared.tasks.Task.{Task}
use Rattle.calloop_wake.specs.declared.tasks.TaskKey.{TaskKey}
use Rattle.calloop_wake.specs.Executors.{ExecutorCell, fresh_executor, with_slot}
use Rattle.calloop_wake_laws.specs.ExecutorKind.{ExecutorPast, unused_executor}
use Rattle.calloop_wake_laws.specs.Kinds.{First, Second, APing, AChannel, AnExecutor, every_kind, new_cell}
use Rattle.calloop_wake_laws.specs.Wakes.{WakeWorld, Looked, Asleep, start, with_cell, no_value, and_one}

-- nothing has happened, and every cell is a ping's; or a channel's, without a bound; or an executor's
abbrev pub of_pings : WakeWorld every_kind.Cell
of_pings = start (λ _. new_cell APing)

abbrev pub of_channels : WakeWorld every_kind.Cell
of_channels = start (λ _. new_cell (AChannel None))

abbrev pub of_executors : WakeWorld every_kind.Cell
of_executors = start (λ _. new_cell AnExecutor)

-- every cell is this ping's, or this channel's, or this executor's
abbrev pub of_this_ping : Cell → WakeWorld every_kind.Cell
of_this_ping c = record of_pings { cells = λ _. First c }

abbrev pub of_this_channel : ChannelPast → WakeWorld every_kind.Cell
of_this_channel p = record of_channels { cells = λ _. Second (First p) }

abbrev pub of_this_executor : ExecutorPast → WakeWorld every_kind.Cell
of_this_executor p = record of_executors { cells = λ _. Second (Second p) }

-- a ring is pending, and the cell isn't pinged
abbrev pub with_a_ring_unseen : WakeWorld every_kind.Cell
with_a_ring_unseen = of_this_ping (record fresh { rung = true })

-- a ping was closed, and the cell isn't pinged
abbrev pub with_a_close_unseen : WakeWorld every_kind.Cell
with_a_close_unseen = of_this_ping (record fresh { closed = true })

-- a cell of key 7 is pinged, and its key is neither posted nor owed nor held
abbrev pub with_a_key_forgotten : WakeWorld every_kind.Cell
with_a_key_forgotten = of_this_ping (record fresh { rung = true; pinged = true; key = Some 7 })

-- the loop looked before key 7 was posted, and nobody wakes it
abbrev pub with_nobody_told : WakeWorld every_kind.Cell
with_nobody_told = record of_pings { board = record { key = 7; marked = true } ∷ []; loop = Looked }

-- the same with a loop in its wait
abbrev pub with_nobody_told_in_a_wait : WakeWorld every_kind.Cell
with_nobody_told_in_a_wait = record of_pings { board = record { key = 7; marked = true } ∷ []; loop = Asleep }

-- a cell of key 7 is pinged, and its key is posted; but the loop sleeps, and nobody wakes it
abbrev pub with_a_sleeper_left_alone : WakeWorld every_kind.Cell
with_a_sleeper_left_alone =
    record of_pings {
      cells = λ _. First (record fresh { rung = true; pinged = true; key = Some 7 });
      board = record { key = 7; marked = true } ∷ [];
      loop = Asleep;
    }

-- message 5 was sent, and the channel isn't pinged
abbrev pub with_a_message_unseen : WakeWorld every_kind.Cell
with_a_message_unseen =
    of_this_channel
    (record (unused_channel None) { now = record (fresh_channel None) { queue = 5 ∷ [] }; taken = 5 ∷ [] })

-- message 5 was sent, and is nowhere
abbrev pub with_a_message_lost : WakeWorld every_kind.Cell
with_a_message_lost = of_this_channel (record (unused_channel None) { taken = 5 ∷ [] })

-- message 5 was sent before 6, and handed out after it
abbrev pub with_messages_out_of_order : WakeWorld every_kind.Cell
with_messages_out_of_order = of_this_channel (record (unused_channel None) { taken = 5 ∷ 6 ∷ []; given = 6 ∷ 5 ∷ [] })

-- the close was told of a channel that was closed and empty
abbrev pub in_time : Telling
in_time = record { closed = true; left = 0 }

-- it was told twice
abbrev pub with_a_close_told_twice : WakeWorld every_kind.Cell
with_a_close_told_twice =
    of_this_channel
    (record (unused_channel None) {
      now = record (fresh_channel None) { cell = record fresh { closed = true; told = true } };
      tellings = in_time ∷ in_time ∷ [];
    })

-- it was told before the last message
abbrev pub with_a_close_told_early : WakeWorld every_kind.Cell
with_a_close_told_early =
    of_this_channel
    (record (unused_channel None) {
      now = record (fresh_channel None) { cell = record fresh { closed = true; told = true } };
      tellings = record { closed = true; left = 1 } ∷ [];
    })

-- it was told of a channel whose last sender is there
abbrev pub with_a_close_told_of_an_open_channel : WakeWorld every_kind.Cell
with_a_close_told_of_an_open_channel =
    of_this_channel
    (record (unused_channel None) {
      now = record (fresh_channel None) { cell = record fresh { told = true } };
      tellings = record { closed = false; left = 0 } ∷ [];
    })

-- two messages are in a channel that holds one
abbrev pub with_a_message_too_many : WakeWorld every_kind.Cell
with_a_message_too_many =
    of_this_channel
    (record (unused_channel (Some 1)) {
      now = record (fresh_channel (Some 1)) { cell = record fresh { pinged = true }; queue = 5 ∷ 6 ∷ [] };
      taken = 5 ∷ 6 ∷ [];
    })

-- a turn may make more pops than one plus the messages of a full channel
abbrev pub with_too_long_a_turn : WakeWorld every_kind.Cell
with_too_long_a_turn =
    of_this_channel (record (unused_channel (Some 1)) { turn = record { left = 3; done = false } })

-- the first task, which is queued
abbrev queued_task : Task
queued_task = record { number = 0; phase = Queued; home = 0 }

-- an executor with this task alone in slot 3, and this queue
abbrev with_queue : Option Task → List ℕ → ExecutorCell
with_queue task queue = record fresh_executor { tasks = with_slot 3 task fresh_executor.tasks; queue = queue; next = 1 }

-- a task is queued, and the executor isn't pinged
abbrev pub with_a_task_unseen : WakeWorld every_kind.Cell
with_a_task_unseen = of_this_executor (record unused_executor { now = with_queue (Some queued_task) (3 ∷ []) })

-- a task is queued twice
abbrev pub with_a_task_queued_twice : WakeWorld every_kind.Cell
with_a_task_queued_twice =
    of_this_executor
    (record unused_executor { now = record (with_queue (Some queued_task) (3 ∷ 3 ∷ [])) { pinged = true } })

-- a finished task is in the queue
abbrev pub with_a_finished_task_queued : WakeWorld every_kind.Cell
with_a_finished_task_queued =
    of_this_executor (record { now = record (with_queue None (3 ∷ [])) { pinged = true; results = 1 }; given = 0 ∷ [] })

-- the result of a task was handed out twice
abbrev pub with_a_result_twice : WakeWorld every_kind.Cell
with_a_result_twice = of_this_executor (record { now = record (with_queue None []) { results = 2 }; given = 0 ∷ 0 ∷ [] })

-- the result of a task was handed out, and it is to be polled again
abbrev pub with_a_result_of_a_task_that_runs : WakeWorld every_kind.Cell
with_a_result_of_a_task_that_runs =
    of_this_executor
    (record { now = record (with_queue (Some queued_task) (3 ∷ [])) { pinged = true; results = 1 }; given = 0 ∷ [] })

-- the first task, which is polled, or was woken in its poll
abbrev in_its_poll : (woken : Bool) → Task
in_its_poll woken = record { number = 0; phase = if woken then Woken else Polling; home = 0 }

-- an executor that popped it in a turn that is no longer open
abbrev having_popped : Task → Option TaskKey → ExecutorCell
having_popped task polled =
    record (with_queue (Some task) []) { progress = record { pops = 1; dry = false; polled = polled } }

-- a task was woken in its poll, and the executor isn't pinged
abbrev pub with_a_woken_task_unseen : WakeWorld every_kind.Cell
with_a_woken_task_unseen =
    of_this_executor
    (record unused_executor { now = having_popped (in_its_poll true) (Some (record { slot = 3; number = 0 })) })

-- a task is in its poll, and no turn popped it
abbrev pub with_a_task_polled_by_nobody : WakeWorld every_kind.Cell
with_a_task_polled_by_nobody = of_this_executor (record unused_executor { now = having_popped (in_its_poll false) None })

-- two tasks have one number
abbrev pub with_a_number_twice : WakeWorld every_kind.Cell
with_a_number_twice =
    of_this_executor
    (record unused_executor {
      now = record fresh_executor {
        tasks = with_slot 4 (Some queued_task) (with_slot 3 (Some queued_task) fresh_executor.tasks);
        queue = 3 ∷ 4 ∷ [];
        next = 1;
        pinged = true;
      };
    })

-- a task has the number of the next one
abbrev pub with_the_next_number : WakeWorld every_kind.Cell
with_the_next_number =
    of_this_executor (record unused_executor { now = record (with_queue (Some queued_task) (3 ∷ [])) { pinged = true; next = 0 } })

-- Here the error is in the second cell, or under a second key, and all else is right: so no clause speaks of the first alone.

-- the second cell is this ping's
abbrev pub with_a_second_ping : Cell → WakeWorld every_kind.Cell
with_a_second_ping c = record of_pings { cells = with_cell 1 (First c) of_pings.cells }

-- a ring is pending there, and the cell isn't pinged
abbrev pub with_a_ring_unseen_in_the_second_cell : WakeWorld every_kind.Cell
with_a_ring_unseen_in_the_second_cell = with_a_second_ping (record fresh { rung = true })

-- The second cell is pinged under key 9, which has a place; somebody holds key 9 as opened for a new cell, and as a permit to
-- close its place, and key 7 is posted, owed and held as a pass. But key 9 is none of these.
abbrev pub with_the_second_key_forgotten : WakeWorld every_kind.Cell
with_the_second_key_forgotten =
    record (with_a_second_ping (record fresh { rung = true; pinged = true; key = Some 9 })) {
      board = record { key = 7; marked = true } ∷ record { key = 9; marked = false } ∷ [];
      debts = and_one 7 no_value;
      passes = and_one 7 no_value;
      opened = and_one 9 no_value;
      permits = and_one 9 no_value;
    }

-- key 9 is posted, and is also owed and held as a pass; but the loop sleeps, and nobody wakes it
abbrev pub with_nobody_told_of_the_second_key : WakeWorld every_kind.Cell
with_nobody_told_of_the_second_key =
    record of_pings {
      board = record { key = 7; marked = false } ∷ record { key = 9; marked = true } ∷ [];
      debts = and_one 9 no_value;
      passes = and_one 9 no_value;
      loop = Asleep;
    }

-- the close was told before the last sender went, who is gone now
abbrev pub with_a_close_told_before_it_came : WakeWorld every_kind.Cell
with_a_close_told_before_it_came =
    of_this_channel
    (record (unused_channel None) {
      now = record (fresh_channel None) { cell = record fresh { closed = true; told = true } };
      tellings = record { closed = false; left = 0 } ∷ [];
    })

-- In these worlds nothing is lost in the cell, but no turn under key 7 is possible.

-- the cell's key is another one
abbrev pub with_another_key : WakeWorld every_kind.Cell
with_another_key =
    record of_pings {
      cells = λ _. First (record fresh { rung = true; pinged = true; key = Some 9 });
      board = record { key = 7; marked = true } ∷ record { key = 9; marked = true } ∷ [];
    }

-- so many messages
abbrev pub messages : ℕ → List ℕ
messages zero = []
messages (suc n) = 5 ∷ messages n

-- an open turn of it is over only after 1,028 pops and its end
abbrev pub with_an_endless_turn : WakeWorld every_kind.Cell
with_an_endless_turn =
    record
    (of_this_channel
    (record (unused_channel None) {
      now = record (fresh_channel None) {
        cell = record fresh { pinged = true; draining = true; key = Some 7 };
        queue = messages 1028;
      };
      turn = record { left = 1028; done = false };
    })) { board = record { key = 7; marked = true } ∷ [] }
