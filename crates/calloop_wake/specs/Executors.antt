-- The cell of an executor and its steps: for each step the cell after it. In calloop's futures.rs it is a slab of wakers, a
-- channel of runnables, a flag that says that the executor was woken, and a ping.
use Rattle.std.specs.Prelude.{◌≡◌, ℕ, ◌+◌, ◌<◌, ◌++◌, Bool, true, false, not, ◌&&◌, ◌||◌, if◌then◌else◌, List, [], ◌∷◌, Option, Some, None, is_some, nat_eq}
use Rattle.logbook.specs.Pages.{Book}
use Rattle.futures.specs.LinkedLists.{IsIn, IsApart}
use Rattle.calloop_wake.specs.declared.tasks.Phase.TheVariants.{Queued, Polling}
use Rattle.calloop_wake.specs.declared.tasks.Task.{Task}
use Rattle.calloop_wake.specs.declared.tasks.TaskKey.{TaskKey}
use Rattle.calloop_wake.specs.declared.executor.Progress.{Progress}
use Rattle.calloop_wake.specs.Cells.{is_own}
use Rattle.calloop_wake.specs.Tasks.{TaskTable, no_tasks, task_at, count, phase_at, after_step, is_idle, is_woken, in_poll, woken_phase, phase_after_pending, slot_if}

-- a turn that has popped nothing yet
abbrev pub at_start : Progress
at_start = record { pops = 0; dry = false; polled = None }

-- what an executor shares with its schedulers and wakers; the futures are elsewhere
pub record ExecutorCell : Type 0 where
  -- the tasks that aren't finished, by slot
  pub tasks : ℕ → Option Task
  -- the slots of the queued tasks, the first one first
  pub queue : List ℕ
  -- how many tasks were ever put: the number of the next one
  pub next : ℕ
  -- how many results were handed out
  pub results : ℕ
  -- the key is posted, or about to be
  pub pinged : Bool
  -- a turn is open
  pub draining : Bool
  -- the executor was dropped
  pub gone : Bool
  -- the progress of that turn
  pub progress : Progress
  -- the key under which the loop knows it
  pub key : Option ℕ
  -- the number of schedulers
  pub senders : ℕ

-- nothing was scheduled yet
abbrev pub fresh_executor : ExecutorCell
fresh_executor = record {
  tasks = λ _. None;
  queue = [];
  next = 0;
  results = 0;
  pinged = false;
  draining = false;
  gone = false;
  progress = at_start;
  key = None;
  senders = 0;
}

-- the tasks, with this in the slot
abbrev pub with_slot : ℕ → Option Task → (ℕ → Option Task) → ℕ → Option Task
with_slot slot task tasks other = if nat_eq other slot then task else tasks other

-- a new task, which is queued last; calloop's Scheduler::schedule puts the task's waker into the slab, and its runnable into
-- the channel
abbrev pub after_put : (slot home : ℕ) → ExecutorCell → ExecutorCell
after_put slot home c =
    record c {
      tasks = with_slot slot (Some (record { number = c.next; phase = Queued; home = home })) c.tasks;
      queue = c.queue ++ slot ∷ [];
      next = c.next + 1;
      pinged = true;
    }

-- A wake: an idle task is queued last, a polled one is marked, and otherwise nothing changes. In calloop the wake of a task
-- puts its runnable into the channel, once until it is polled.
abbrev pub after_wake : TaskKey → ExecutorCell → ExecutorCell
after_wake key c =
    record c {
      tasks = with_slot key.slot (after_step woken_phase key.number (c.tasks key.slot)) c.tasks;
      queue = c.queue ++ slot_if (is_idle (phase_at key c.tasks)) key.slot;
      pinged = is_idle (phase_at key c.tasks) || c.pinged;
    }

-- A wake of the task of this number changes nothing, whatever slot its key names. Calloop's async_task sees in one word that
-- a task is scheduled, and then does nothing.
abbrev pub IsAwake : ℕ → ExecutorCell → Type 0
IsAwake number c = (slot : ℕ) → after_wake (record { slot = slot; number = number }) c ≡ c

-- the task that was popped last is finished, or idle, or queued last if it was woken during its poll
abbrev pub after_poll_of : Option TaskKey → (finished : Bool) → ExecutorCell → ExecutorCell
after_poll_of None finished c = c
after_poll_of (Some key) true c =
    record c {
      tasks = with_slot key.slot None c.tasks;
      results = c.results + 1;
      progress = record c.progress { polled = None };
    }
after_poll_of (Some key) false c =
    record c {
      tasks = with_slot key.slot (after_step phase_after_pending key.number (c.tasks key.slot)) c.tasks;
      queue = c.queue ++ slot_if (is_woken (phase_at key c.tasks)) key.slot;
      progress = record c.progress { polled = None };
    }

-- the same for the task that the turn popped last
abbrev pub after_poll : (finished : Bool) → ExecutorCell → ExecutorCell
after_poll finished c = after_poll_of c.progress.polled finished c

-- the key of the task in this slot
abbrev pub key_in : ℕ → Option Task → Option TaskKey
key_in slot None = None
key_in slot (Some task) = Some (record { slot = slot; number = task.number })

-- the task, in its poll
abbrev pub in_its_poll : Option Task → Option Task
in_its_poll None = None
in_its_poll (Some task) = Some (record task { phase = Polling })

-- the first task of the queue, if there is one, enters its poll
abbrev pub taken_of : List ℕ → ExecutorCell → ExecutorCell
taken_of [] c = record c { progress = record { pops = c.progress.pops + 1; dry = true; polled = None } }
taken_of (slot ∷ rest) c =
    record c {
      tasks = with_slot slot (in_its_poll (c.tasks slot)) c.tasks;
      queue = rest;
      progress = record { pops = c.progress.pops + 1; dry = false; polled = key_in slot (c.tasks slot) };
    }

-- the same, for the present queue
abbrev pub after_take : ExecutorCell → ExecutorCell
after_take c = taken_of c.queue c

-- A pop, which first ends the poll of the task that was popped before; calloop's process_events takes the next runnable
abbrev pub after_pop : (finished : Bool) → ExecutorCell → ExecutorCell
after_pop finished c = after_take (after_poll finished c)

-- the turn is over, and pings if its last pop returned a task; calloop's process_events rings its own Ping after 1,024
abbrev pub after_end : ExecutorCell → ExecutorCell
after_end c = record c { draining = false; pinged = c.pinged || not c.progress.dry; progress = at_start }

-- the end of a turn, which first ends the poll of the task that was popped last
abbrev pub after_end_turn : (finished : Bool) → ExecutorCell → ExecutorCell
after_end_turn finished c = after_end (after_poll finished c)

-- a pass of this key opens a turn; calloop's PingSource compares the token of the event with its own
abbrev pub opens : ℕ → ExecutorCell → Bool
opens k c = is_own k c.key && not c.draining

-- a turn is open, which has popped nothing yet
abbrev pub in_turn : ExecutorCell → ExecutorCell
in_turn c = record c { pinged = false; draining = true; progress = at_start }

-- calloop's process_events reads the descriptor of the executor's ping empty
abbrev pub after_open_turn : ℕ → ExecutorCell → ExecutorCell
after_open_turn k c = if opens k c then in_turn c else c

-- calloop registers that descriptor under the key
abbrev pub after_set_key : ℕ → ExecutorCell → ExecutorCell
after_set_key k c = record c { key = Some k }

-- The key is taken back. The executor's drop also finishes each task: calloop's wakes them all, and drops the content of
-- the channel.
abbrev pub after_clear_key : (by_drop : Bool) → ExecutorCell → ExecutorCell
after_clear_key true c =
    record c { key = None; gone = true; tasks = λ _. None; queue = []; progress = record c.progress { polled = None } }
after_clear_key false c = record c { key = None }

-- the most that one turn pops, as calloop's process_events
abbrev pub most_tasks : ℕ
most_tasks = 1024

-- nothing is queued
abbrev pub is_empty : List ℕ → Bool
is_empty [] = true
is_empty (x ∷ xs) = false

-- the queue has exactly the tasks whose phase is queued, each once
pub record AreQueued (tasks : ℕ → Option Task) (queue : List ℕ) : Type 0 where
  pub once : IsApart queue
  pub only : (slot : ℕ) → IsIn slot queue → (task : Task) × (tasks slot ≡ Some task) × (task.phase ≡ Queued)
  pub all : (slot : ℕ) (task : Task) → tasks slot ≡ Some task → task.phase ≡ Queued → IsIn slot queue

-- the only polled task is the one that was popped last
abbrev pub ArePolled : (ℕ → Option Task) → Option TaskKey → Type 0
ArePolled tasks polled =
    (slot : ℕ) (task : Task) → tasks slot ≡ Some task → in_poll (Some task.phase) ≡ true
    → polled ≡ Some (record { slot = slot; number = task.number })

-- no two tasks have the same number, and none has a number that is still to come
pub record AreNumbered (tasks : ℕ → Option Task) (next : ℕ) : Type 0 where
  pub below : (slot : ℕ) (task : Task) → tasks slot ≡ Some task → task.number < next
  pub apart : (slot other : ℕ) (task that : Task) → tasks slot ≡ Some task → tasks other ≡ Some that
      → task.number ≡ that.number → slot ≡ other

-- the tasks, the queue and the next number, between any two steps: each task is idle, queued once, polled, or finished
pub record AreSorted (c : ExecutorCell) : Type 0 where
  pub queued : AreQueued c.tasks c.queue
  pub polled : ArePolled c.tasks c.progress.polled
  pub numbered : AreNumbered c.tasks c.next

-- tasks to be polled keep the cell pinged, or a turn is open that will pop them
abbrev pub IsLitExecutor : ExecutorCell → Type 0
IsLitExecutor c = is_empty c.queue ≡ false → (c.pinged || (c.draining && not c.progress.dry)) ≡ true

-- a task is polled only in a turn, and it is there
abbrev pub IsRunning : ExecutorCell → Type 0
IsRunning c = (key : TaskKey) → c.progress.polled ≡ Some key
    → (c.draining ≡ true) × (c.progress.dry ≡ false) × (in_poll (phase_at key c.tasks) ≡ true)

-- what the cell keeps, between any two steps
pub record IsKeepingTasks (c : ExecutorCell) : Type 0 where
  pub sorted : AreSorted c
  pub lit : IsLitExecutor c
  pub running : IsRunning c

-- No wake is lost: with a queued task, or one that was woken during its poll, the cell is pinged, or a turn is open. And each
-- task is in the state that its phase says.
pub record IsStandingExecutor (c : ExecutorCell) : Type 0 where
  pub queued : is_empty c.queue ≡ false → (c.pinged || c.draining) ≡ true
  pub woken : (slot : ℕ) (task : Task) → c.tasks slot ≡ Some task → is_woken (Some task.phase) ≡ true
      → (c.pinged || c.draining) ≡ true
  pub sorted : AreSorted c

-- the debt of a step from this cell to that one: the key, if the step pings anew
abbrev pub debt_between : (before after : ExecutorCell) → Option ℕ
debt_between c d = if c.pinged then None else if d.pinged then d.key else None

-- the debt of setting the key
abbrev pub owed_at : ℕ → ExecutorCell → Option ℕ
owed_at k c = if c.pinged then Some k else None

-- no tasks, if the executor is gone
abbrev pub table_of : Option TaskTable → TaskTable
table_of None = no_tasks
table_of (Some table) = table

-- the cell of a core with these fields
abbrev pub inside_cell : Option TaskTable → (next results : ℕ) → (pinged draining : Bool) → Progress → Option ℕ → ℕ → ExecutorCell
inside_cell tasks next results pinged draining progress key senders =
    record {
      tasks = task_at (table_of tasks);
      queue = (table_of tasks).queue;
      next = next;
      results = results;
      pinged = pinged;
      draining = draining;
      gone = not (is_some tasks);
      progress = progress;
      key = key;
      senders = senders;
    }

-- the view of a core: its tasks, and the rest of its cell
pub record ExecutorView : Type 0 where
  pub table : TaskTable
  pub next : ℕ
  pub results : ℕ
  pub pinged : Bool
  pub draining : Bool
  pub gone : Bool
  pub progress : Progress
  pub key : Option ℕ
  pub senders : ℕ
  -- no other cell has it
  pub name : Book
  -- the name of the board of its key; means nothing without a key
  pub board : Book

-- the cell in it
abbrev pub cell_of : ExecutorView → ExecutorCell
cell_of v = record {
  tasks = task_at v.table;
  queue = v.table.queue;
  next = v.next;
  results = v.results;
  pinged = v.pinged;
  draining = v.draining;
  gone = v.gone;
  progress = v.progress;
  key = v.key;
  senders = v.senders;
}

-- each task that was ever put has returned its result or is there, until the executor is dropped
abbrev pub IsBalanced : ExecutorView → Type 0
IsBalanced v = v.gone ≡ false → v.next ≡ v.results + count v.table
