-- Possible schedules, with each kind of step at the moments that matter: so the needs of the steps rule none of these out. And
-- schedules that the needs rule out.
use Rattle.std.specs.Prelude.{ℕ, zero, suc, ◌+◌, ◌-◌, ◌^◌, List, [], ◌∷◌, ◌++◌, true, false, if◌then◌else◌, nat_eq, Some, None}
use Rattle.calloop_wake.specs.Cells.{Cell, fresh}
use Rattle.calloop_wake.specs.Channels.{fresh_channel}
use Rattle.calloop_wake_laws.specs.ChannelKind as channel
use Rattle.calloop_wake.specs.Executors.{fresh_executor, with_slot}
use Rattle.calloop_wake_laws.specs.ExecutorKind as executor
use Rattle.calloop_wake_laws.specs.PingKind as ping
use Rattle.calloop_wake_laws.specs.Kinds.{First, Second, APing, AChannel, every_kind, new_cell}
use Rattle.calloop_wake.specs.declared.channel.LastPop.TheVariants.{AnItem, NoItem}
use Rattle.calloop_wake_laws.specs.Lost.{in_time}
use Rattle.calloop_wake_laws.specs.Wakes.{
  WakeWorld,
  start,
  WakeStep,
  At,
  ClearKey,
  SetKey,
  OpenTurn,
  OpenPlace,
  ClosePlace,
  Post,
  Back,
  Unpost,
  Look,
  Wakeup,
  Sleep,
  Return,
}

abbrev pub Schedule : Type 0
Schedule = List (WakeStep every_kind.Own)

-- the steps that pings, channels and executors have of their own, of cell 0
abbrev rings : WakeStep every_kind.Own
rings = At 0 (First ping.Ring)

abbrev closes : WakeStep every_kind.Own
closes = At 0 (First ping.Close)

abbrev ends : WakeStep every_kind.Own
ends = At 0 (First ping.EndTurn)

abbrev puts : ℕ → WakeStep every_kind.Own
puts message = At 0 (Second (First (channel.Put message)))

abbrev pops : WakeStep every_kind.Own
pops = At 0 (Second (First channel.Pop))

-- a call that receives takes a message
abbrev takes : WakeStep every_kind.Own
takes = At 0 (Second (First channel.Take))

-- as by a send that finds the channel full
abbrev rings_channel : WakeStep every_kind.Own
rings_channel = At 0 (Second (First channel.Ring))

abbrev hangs_up : WakeStep every_kind.Own
hangs_up = At 0 (Second (First channel.Close))

abbrev ends_pops : WakeStep every_kind.Own
ends_pops = At 0 (Second (First channel.EndTurn))

abbrev schedules : WakeStep every_kind.Own
schedules = At 0 (Second (Second (executor.Put 3 0)))

abbrev wakes : WakeStep every_kind.Own
wakes = At 0 (Second (Second (executor.Wake (record { slot = 3; number = 0 }))))

-- the task that was popped before is pending
abbrev pops_task : WakeStep every_kind.Own
pops_task = At 0 (Second (Second (executor.Pop false)))

-- the task finished
abbrev pops_behind_result : WakeStep every_kind.Own
pops_behind_result = At 0 (Second (Second (executor.Pop true)))

abbrev ends_tasks : WakeStep every_kind.Own
ends_tasks = At 0 (Second (Second (executor.EndTurn false)))

-- a ring that comes while the loop waits is posted and told of, and the wait returns; then its key is taken, and a turn opened
abbrev pub ring_in_a_wait : Schedule
ring_in_a_wait =
    OpenPlace 7 ∷ SetKey 0 7 ∷ Look ∷ Sleep ∷ rings ∷ Post 7 ∷ Wakeup ∷ Return ∷ Unpost 8 ∷ OpenTurn 0 7 ∷ []

-- a key is posted after a look that found none, before the sleep
abbrev pub post_between_look_and_sleep : Schedule
post_between_look_and_sleep =
    OpenPlace 7 ∷ SetKey 0 7 ∷ Look ∷ rings ∷ Post 7 ∷ Sleep ∷ Wakeup ∷ Return ∷ Unpost 8 ∷ OpenTurn 0 7 ∷ ends ∷ []

-- a ring comes while a turn is open: it is for the next turn
abbrev pub ring_in_a_turn : Schedule
ring_in_a_turn = OpenPlace 7 ∷ SetKey 0 7 ∷ rings ∷ Post 7 ∷ Unpost 8 ∷ OpenTurn 0 7 ∷ rings ∷ ends ∷ Post 7 ∷ []

-- the last sender goes while a turn is open: the next turn tells it
abbrev pub close_in_a_turn : Schedule
close_in_a_turn =
    OpenPlace 7
    ∷ SetKey 0 7
    ∷ rings
    ∷ Post 7
    ∷ Unpost 8
    ∷ OpenTurn 0 7
    ∷ closes
    ∷ ends
    ∷ Post 7
    ∷ Unpost 8
    ∷ OpenTurn 0 7
    ∷ []

-- a pass that wasn't spent goes back to the board
abbrev pub pass_that_goes_back : Schedule
pass_that_goes_back = OpenPlace 7 ∷ SetKey 0 7 ∷ rings ∷ Post 7 ∷ Unpost 8 ∷ Back 7 ∷ Post 7 ∷ []

-- the cell gets another key while the loop holds a pass of the one before, which opens no turn any more
abbrev pub key_that_moves : Schedule
key_that_moves =
    OpenPlace 7
    ∷ SetKey 0 7
    ∷ rings
    ∷ Post 7
    ∷ Unpost 8
    ∷ OpenPlace 9
    ∷ SetKey 0 9
    ∷ OpenTurn 0 7
    ∷ Back 7
    ∷ ClosePlace 7
    ∷ Post 9
    ∷ Unpost 10
    ∷ OpenTurn 0 9
    ∷ []

-- the key is taken back while a ring is pending, and the cell gets another key
abbrev pub key_that_is_cleared : Schedule
key_that_is_cleared =
    OpenPlace 7
    ∷ SetKey 0 7
    ∷ rings
    ∷ ClearKey 0 false
    ∷ Post 7
    ∷ ClosePlace 7
    ∷ OpenPlace 9
    ∷ SetKey 0 9
    ∷ Post 9
    ∷ Unpost 10
    ∷ OpenTurn 0 9
    ∷ []

-- the receiving end is dropped in its turn
abbrev pub drop_in_a_turn : Schedule
drop_in_a_turn = OpenPlace 7 ∷ SetKey 0 7 ∷ rings ∷ Post 7 ∷ Unpost 8 ∷ OpenTurn 0 7 ∷ ClearKey 0 true ∷ ClosePlace 7 ∷ ends ∷ []

-- a wait returns without having slept, and the loop looks again after a look
abbrev pub wait_without_a_sleep : Schedule
wait_without_a_sleep = Look ∷ Return ∷ Look ∷ Look ∷ Sleep ∷ Return ∷ Return ∷ []

-- message 6 is sent while a turn hands out 5; the turn then hands out 6 too, and stops when it finds none
abbrev pub message_in_a_turn : Schedule
message_in_a_turn =
    OpenPlace 7
    ∷ SetKey 0 7
    ∷ puts 5
    ∷ Post 7
    ∷ Unpost 8
    ∷ OpenTurn 0 7
    ∷ pops
    ∷ puts 6
    ∷ pops
    ∷ pops
    ∷ ends_pops
    ∷ Post 7
    ∷ []

-- the last sender goes after message 5: the turn hands it out, tells the close, and then nothing more
abbrev pub close_behind_a_message : Schedule
close_behind_a_message =
    OpenPlace 7
    ∷ SetKey 0 7
    ∷ puts 5
    ∷ hangs_up
    ∷ Post 7
    ∷ Unpost 8
    ∷ OpenTurn 0 7
    ∷ pops
    ∷ pops
    ∷ pops
    ∷ ends_pops
    ∷ []

-- A task is scheduled, polled, and woken in its poll: so it is queued again, and the same turn polls it again. It is done then;
-- a wake that comes later changes nothing.
abbrev pub task_in_a_turn : Schedule
task_in_a_turn =
    OpenPlace 7
    ∷ SetKey 0 7
    ∷ schedules
    ∷ Post 7
    ∷ Unpost 8
    ∷ OpenTurn 0 7
    ∷ pops_task
    ∷ wakes
    ∷ pops_task
    ∷ pops_behind_result
    ∷ wakes
    ∷ ends_tasks
    ∷ []

-- a task that is pending is woken while the loop waits, and posted
abbrev pub wake_in_a_wait : Schedule
wake_in_a_wait =
    OpenPlace 7
    ∷ SetKey 0 7
    ∷ schedules
    ∷ Post 7
    ∷ Unpost 8
    ∷ OpenTurn 0 7
    ∷ pops_task
    ∷ pops_task
    ∷ ends_tasks
    ∷ Look
    ∷ Sleep
    ∷ wakes
    ∷ wakes
    ∷ Post 7
    ∷ []

-- the executor is dropped with a queued task, which a wake no longer queues
abbrev pub executor_that_goes : Schedule
executor_that_goes = OpenPlace 7 ∷ SetKey 0 7 ∷ schedules ∷ Post 7 ∷ ClearKey 0 true ∷ wakes ∷ ClosePlace 7 ∷ []

-- A channel is rung without a message, before a turn and in it: the turn finds none, and the next one is posted.
abbrev pub channel_that_is_rung : Schedule
channel_that_is_rung =
    OpenPlace 7
    ∷ SetKey 0 7
    ∷ rings_channel
    ∷ Post 7
    ∷ Unpost 8
    ∷ OpenTurn 0 7
    ∷ pops
    ∷ rings_channel
    ∷ ends_pops
    ∷ Post 7
    ∷ []

-- the last sender goes while a turn hands out message 5, and the same turn tells the close
abbrev pub close_in_a_channels_turn : Schedule
close_in_a_channels_turn =
    OpenPlace 7
    ∷ SetKey 0 7
    ∷ puts 5
    ∷ Post 7
    ∷ Unpost 8
    ∷ OpenTurn 0 7
    ∷ pops
    ∷ hangs_up
    ∷ pops
    ∷ ends_pops
    ∷ Post 7
    ∷ []

-- the last sender goes after the pop that found none, and the next turn tells the close
abbrev pub close_behind_the_last_pop : Schedule
close_behind_the_last_pop =
    OpenPlace 7
    ∷ SetKey 0 7
    ∷ rings_channel
    ∷ Post 7
    ∷ Unpost 8
    ∷ OpenTurn 0 7
    ∷ pops
    ∷ hangs_up
    ∷ ends_pops
    ∷ Post 7
    ∷ Unpost 8
    ∷ OpenTurn 0 7
    ∷ pops
    ∷ ends_pops
    ∷ []

-- messages are received outside of a turn, before the channel has a key and while its key is posted; a turn then finds none
abbrev pub message_outside_of_a_turn : Schedule
message_outside_of_a_turn =
    puts 4
    ∷ takes
    ∷ OpenPlace 7
    ∷ SetKey 0 7
    ∷ puts 5
    ∷ Post 7
    ∷ takes
    ∷ Unpost 8
    ∷ OpenTurn 0 7
    ∷ pops
    ∷ ends_pops
    ∷ []

-- A channel that holds one message is full, and is rung. Its turn hands out two, as there was room again, and ends: it pings.
abbrev pub bounded_channel : Schedule
bounded_channel =
    OpenPlace 7
    ∷ SetKey 0 7
    ∷ puts 5
    ∷ rings_channel
    ∷ Post 7
    ∷ Unpost 8
    ∷ OpenTurn 0 7
    ∷ pops
    ∷ puts 6
    ∷ pops
    ∷ ends_pops
    ∷ Post 7
    ∷ []

-- message 6 is put though the last sender is gone: the close is told after it
abbrev pub message_behind_the_close : Schedule
message_behind_the_close =
    OpenPlace 7
    ∷ SetKey 0 7
    ∷ hangs_up
    ∷ puts 6
    ∷ Post 7
    ∷ Unpost 8
    ∷ OpenTurn 0 7
    ∷ pops
    ∷ pops
    ∷ ends_pops
    ∷ []

-- the key of a channel moves while the loop holds a pass of the one before, and then it is taken back, and another one set
abbrev pub channel_that_moves : Schedule
channel_that_moves =
    OpenPlace 7
    ∷ SetKey 0 7
    ∷ puts 5
    ∷ Post 7
    ∷ Unpost 8
    ∷ OpenPlace 9
    ∷ SetKey 0 9
    ∷ OpenTurn 0 7
    ∷ Back 7
    ∷ ClosePlace 7
    ∷ Post 9
    ∷ ClearKey 0 false
    ∷ ClosePlace 9
    ∷ OpenPlace 3
    ∷ SetKey 0 3
    ∷ Post 3
    ∷ Unpost 4
    ∷ OpenTurn 0 3
    ∷ pops
    ∷ []

-- the same of an executor
abbrev pub executor_that_moves : Schedule
executor_that_moves =
    OpenPlace 7
    ∷ SetKey 0 7
    ∷ schedules
    ∷ Post 7
    ∷ Unpost 8
    ∷ OpenPlace 9
    ∷ SetKey 0 9
    ∷ OpenTurn 0 7
    ∷ Back 7
    ∷ ClosePlace 7
    ∷ Post 9
    ∷ ClearKey 0 false
    ∷ ClosePlace 9
    ∷ OpenPlace 3
    ∷ SetKey 0 3
    ∷ Post 3
    ∷ Unpost 4
    ∷ OpenTurn 0 3
    ∷ pops_task
    ∷ []

-- A task is done, and a second one gets its slot in the same turn; a wake of the first one then changes nothing. The turn ends with
-- the result of the second one.
abbrev pub second_task_in_a_slot : Schedule
second_task_in_a_slot =
    OpenPlace 7
    ∷ SetKey 0 7
    ∷ schedules
    ∷ Post 7
    ∷ Unpost 8
    ∷ OpenTurn 0 7
    ∷ pops_task
    ∷ pops_behind_result
    ∷ schedules
    ∷ wakes
    ∷ ends_tasks
    ∷ Post 7
    ∷ Unpost 8
    ∷ OpenTurn 0 7
    ∷ pops_task
    ∷ wakes
    ∷ pops_behind_result
    ∷ ends_tasks
    ∷ []

-- these steps repeated so many times, and then those
abbrev pub repeat : ℕ → Schedule → Schedule → Schedule
repeat zero round rest = rest
repeat (suc n) round rest = round ++ repeat n round rest

-- a turn of a channel is opened; a turn of an executor is, and its first task was polled, and woken in its poll
abbrev pub opens_channel : Schedule
opens_channel = OpenPlace 7 ∷ SetKey 0 7 ∷ puts 5 ∷ Post 7 ∷ Unpost 8 ∷ OpenTurn 0 7 ∷ []

abbrev pub opens_executor : Schedule
opens_executor = OpenPlace 7 ∷ SetKey 0 7 ∷ schedules ∷ Post 7 ∷ Unpost 8 ∷ OpenTurn 0 7 ∷ pops_task ∷ wakes ∷ []

-- after each message that a turn hands out another one is sent: so it ends after its 1,024th pop
abbrev pub turn_of_1024_pops : Schedule
turn_of_1024_pops = opens_channel ++ repeat 1024 (pops ∷ puts 5 ∷ []) (ends_pops ∷ [])

-- the same of tasks: one is woken in each of its polls, and gives its result in the last
abbrev pub turn_of_1024_polls : Schedule
turn_of_1024_polls =
    opens_executor ++ repeat 1023 (pops_task ∷ wakes ∷ []) (At 0 (Second (Second (executor.EndTurn true))) ∷ [])

-- every cell is a channel's that holds one message
abbrev pub of_bounded_channels : WakeWorld every_kind.Cell
of_bounded_channels = start (λ _. new_cell (AChannel (Some 1)))

-- Two cells: a ping's, and a channel's.

abbrev pub of_both : WakeWorld every_kind.Cell
of_both = start (λ n. new_cell (if nat_eq n 0 then APing else AChannel None))

abbrev puts_there : ℕ → WakeStep every_kind.Own
puts_there message = At 1 (Second (First (channel.Put message)))

abbrev pops_there : WakeStep every_kind.Own
pops_there = At 1 (Second (First channel.Pop))

abbrev ends_there : WakeStep every_kind.Own
ends_there = At 1 (Second (First channel.EndTurn))

-- both keys are taken at once, and both turns are open at the same time
abbrev pub two_turns_at_once : Schedule
two_turns_at_once =
    OpenPlace 7
    ∷ SetKey 0 7
    ∷ OpenPlace 9
    ∷ SetKey 1 9
    ∷ rings
    ∷ puts_there 5
    ∷ Post 9
    ∷ Post 7
    ∷ Unpost 10
    ∷ OpenTurn 1 9
    ∷ OpenTurn 0 7
    ∷ pops_there
    ∷ rings
    ∷ pops_there
    ∷ ends
    ∷ ends_there
    ∷ Post 7
    ∷ []

-- One of two posted keys is taken, and its turn ends; the look then finds the other, and that is taken. The wakeups are
-- spent while the loop is awake.
abbrev pub unpost_in_part : Schedule
unpost_in_part =
    OpenPlace 7
    ∷ SetKey 0 7
    ∷ OpenPlace 9
    ∷ SetKey 1 9
    ∷ rings
    ∷ puts_there 5
    ∷ Post 9
    ∷ Post 7
    ∷ Wakeup
    ∷ Unpost 8
    ∷ OpenTurn 0 7
    ∷ ends
    ∷ Wakeup
    ∷ Look
    ∷ Unpost 10
    ∷ OpenTurn 1 9
    ∷ pops_there
    ∷ []

-- keys are taken while the loop sleeps, and past its look
abbrev pub unpost_in_a_wait : Schedule
unpost_in_a_wait =
    OpenPlace 7
    ∷ SetKey 0 7
    ∷ Look
    ∷ rings
    ∷ Post 7
    ∷ Unpost 8
    ∷ Back 7
    ∷ Post 7
    ∷ Sleep
    ∷ Unpost 8
    ∷ Wakeup
    ∷ Return
    ∷ OpenTurn 0 7
    ∷ []

-- the place of a key is closed while the key is owed: its post marks nothing; the same key is posted when it has a place again
abbrev pub key_without_a_place : Schedule
key_without_a_place =
    OpenPlace 7
    ∷ SetKey 0 7
    ∷ rings
    ∷ ClearKey 0 false
    ∷ ClosePlace 7
    ∷ Post 7
    ∷ OpenPlace 7
    ∷ SetKey 0 7
    ∷ Post 7
    ∷ Unpost 8
    ∷ OpenTurn 0 7
    ∷ []

-- The whole life of a ping under a key: its place is opened; it is rung, and its key posted, taken, put back, posted and taken
-- again; it has its turn. Then its key is taken back and its place closed, it gets the key anew, and its receiving end goes.
abbrev pub life : (cell key : ℕ) → Schedule
life n k =
    OpenPlace k
    ∷ SetKey n k
    ∷ At n (First ping.Ring)
    ∷ Post k
    ∷ Unpost (k + 1)
    ∷ Back k
    ∷ Post k
    ∷ Unpost (k + 1)
    ∷ OpenTurn n k
    ∷ At n (First ping.EndTurn)
    ∷ ClearKey n false
    ∷ ClosePlace k
    ∷ OpenPlace k
    ∷ SetKey n k
    ∷ ClearKey n true
    ∷ ClosePlace k
    ∷ []

-- all of it while the loop is past its look, or in its wait
abbrev pub life_past_a_look : Schedule
life_past_a_look = Look ∷ life 0 7

abbrev pub life_in_a_wait : Schedule
life_in_a_wait = Look ∷ Sleep ∷ life 0 7 ++ Wakeup ∷ Return ∷ []

-- the third cell has this life under the greatest key that a token has
abbrev pub life_of_the_third_cell : Schedule
life_of_the_third_cell = life 2 (2 ^ 64 - 2)

-- Impossible schedules.

-- a turn ends after a message, when it may make more pops; or after no pop
abbrev pub turn_that_stops : Schedule
turn_that_stops = OpenPlace 7 ∷ SetKey 0 7 ∷ puts 5 ∷ Post 7 ∷ Unpost 8 ∷ OpenTurn 0 7 ∷ pops ∷ ends_pops ∷ []

abbrev pub turn_without_a_pop : Schedule
turn_without_a_pop = OpenPlace 7 ∷ SetKey 0 7 ∷ puts 5 ∷ Post 7 ∷ Unpost 8 ∷ OpenTurn 0 7 ∷ ends_pops ∷ []

-- a turn of a channel that holds one message pops three times
abbrev pub pop_too_many : Schedule
pop_too_many =
    OpenPlace 7 ∷ SetKey 0 7 ∷ puts 5 ∷ Post 7 ∷ Unpost 8 ∷ OpenTurn 0 7 ∷ pops ∷ puts 6 ∷ pops ∷ pops ∷ []

-- the last sender goes twice
abbrev pub close_twice : Schedule
close_twice = hangs_up ∷ hangs_up ∷ []

-- a call receives when no message is there, or a turn's pop comes when no turn is open
abbrev pub take_of_nothing : Schedule
take_of_nothing = puts 5 ∷ takes ∷ takes ∷ []

abbrev pub pop_without_a_turn : Schedule
pop_without_a_turn = puts 5 ∷ pops ∷ []

-- a second message is put into a channel that holds one
abbrev pub put_past_the_bound : Schedule
put_past_the_bound = puts 5 ∷ puts 6 ∷ []

-- an executor's turn ends after a task, when it may pop more
abbrev pub turn_that_stops_behind_a_task : Schedule
turn_that_stops_behind_a_task =
    OpenPlace 7 ∷ SetKey 0 7 ∷ schedules ∷ Post 7 ∷ Unpost 8 ∷ OpenTurn 0 7 ∷ pops_task ∷ ends_tasks ∷ []

-- The final states of these: the cell that they are of.

abbrev pub of_key_seven : Cell
of_key_seven = record fresh { key = Some 7 }

abbrev pub of_key_nine : Cell
of_key_nine = record fresh { key = Some 9 }

-- a turn that found no message by its pop of this number
abbrev stopped_at : ℕ → channel.Progress
stopped_at pop = record { left = 1024 - pop; done = true }

abbrev pub after_message_in_a_turn : channel.ChannelPast
after_message_in_a_turn =
    record (channel.unused_channel None) {
      now = record (fresh_channel None) { cell = record of_key_seven { pinged = true }; last = NoItem };
      turn = stopped_at 3;
      taken = 5 ∷ 6 ∷ [];
      given = 5 ∷ 6 ∷ [];
    }

abbrev pub after_close_behind_a_message : channel.ChannelPast
after_close_behind_a_message =
    record (channel.unused_channel None) {
      now = record (fresh_channel None) { cell = record of_key_seven { closed = true; told = true }; last = NoItem };
      turn = stopped_at 3;
      taken = 5 ∷ [];
      given = 5 ∷ [];
      tellings = in_time ∷ [];
    }

abbrev pub after_channel_that_is_rung : channel.ChannelPast
after_channel_that_is_rung =
    record (channel.unused_channel None) {
      now = record (fresh_channel None) { cell = record of_key_seven { pinged = true }; last = NoItem };
      turn = stopped_at 1;
    }

abbrev pub after_close_in_a_channels_turn : channel.ChannelPast
after_close_in_a_channels_turn =
    record (channel.unused_channel None) {
      now = record (fresh_channel None) {
        cell = record of_key_seven { pinged = true; closed = true; told = true };
        last = NoItem;
      };
      turn = stopped_at 2;
      taken = 5 ∷ [];
      given = 5 ∷ [];
      tellings = in_time ∷ [];
    }

abbrev pub after_message_outside_of_a_turn : channel.ChannelPast
after_message_outside_of_a_turn =
    record (channel.unused_channel None) {
      now = record (fresh_channel None) { cell = of_key_seven; last = NoItem };
      turn = stopped_at 1;
      taken = 4 ∷ 5 ∷ [];
      given = 4 ∷ 5 ∷ [];
    }

abbrev pub after_bounded_channel : channel.ChannelPast
after_bounded_channel =
    record (channel.unused_channel (Some 1)) {
      now = record (fresh_channel (Some 1)) { cell = record of_key_seven { pinged = true }; last = AnItem };
      turn = record { left = 0; done = false };
      taken = 5 ∷ 6 ∷ [];
      given = 5 ∷ 6 ∷ [];
    }

abbrev pub after_message_behind_the_close : channel.ChannelPast
after_message_behind_the_close =
    record (channel.unused_channel None) {
      now = record (fresh_channel None) { cell = record of_key_seven { closed = true; told = true }; last = NoItem };
      turn = stopped_at 2;
      taken = 6 ∷ [];
      given = 6 ∷ [];
      tellings = in_time ∷ [];
    }

abbrev pub after_task_in_a_turn : executor.ExecutorPast
after_task_in_a_turn =
    record {
      now = record fresh_executor {
        tasks = with_slot 3 None fresh_executor.tasks;
        next = 1;
        results = 1;
        key = Some 7;
      };
      given = 0 ∷ [];
    }

-- two tasks were there, both finished, and after the second one nothing was popped
abbrev pub after_second_task_in_a_slot : executor.ExecutorPast
after_second_task_in_a_slot =
    record {
      now = record fresh_executor {
        tasks = with_slot 3 None fresh_executor.tasks;
        next = 2;
        results = 2;
        key = Some 7;
      };
      given = 0 ∷ 1 ∷ [];
    }
