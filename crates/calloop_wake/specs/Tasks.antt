-- The tasks of an executor, and the effect of its steps on one. In calloop's futures.rs they are a slab of wakers and a
-- channel of runnables, and async_task keeps the state of each.
use Rattle.std.specs.Prelude.{ℕ, Bool, true, false, List, [], ◌∷◌, Option, Some, None, nat_eq, slice_index_or, if◌then◌else◌, is_some, count_by}
use Rattle.calloop_wake.specs.declared.tasks.Phase.{Phase}
use Rattle.calloop_wake.specs.declared.tasks.Phase.TheVariants.{Idle, Queued, Polling, Woken}
use Rattle.calloop_wake.specs.declared.tasks.Task.{Task}
use Rattle.calloop_wake.specs.declared.tasks.TaskKey.{TaskKey}

-- the unfinished tasks, each in a slot, and the slots of the queued ones, the first one first
pub record TaskTable : Type 0 where
  pub slots : List (Option Task)
  pub queue : List ℕ

-- no task
abbrev pub no_tasks : TaskTable
no_tasks = record { slots = []; queue = [] }

-- the task in this slot
abbrev pub task_at : TaskTable → ℕ → Option Task
task_at table slot = slice_index_or table.slots slot None

-- the number of unfinished tasks
abbrev pub count : TaskTable → ℕ
count table = count_by is_some table.slots

-- the list for tasks in this phase; there is only one, the queue
abbrev pub place_of_phase : Phase → Option ℕ
place_of_phase Queued = Some 0
place_of_phase _ = None

-- the list that has a slot: the queue if its task is queued, and otherwise none
abbrev pub place_of : Option Task → Option ℕ
place_of None = None
place_of (Some task) = place_of_phase task.phase

-- waits for a wake
abbrev pub is_idle : Option Phase → Bool
is_idle (Some Idle) = true
is_idle _ = false

-- polled, and woken meanwhile
abbrev pub is_woken : Option Phase → Bool
is_woken (Some Woken) = true
is_woken _ = false

-- polled, and maybe woken meanwhile
abbrev pub in_poll : Option Phase → Bool
in_poll (Some Polling) = true
in_poll (Some Woken) = true
in_poll _ = false

-- queued, or woken during its poll, so that it will be polled
abbrev pub is_awake : Option Phase → Bool
is_awake (Some Queued) = true
is_awake (Some Woken) = true
is_awake _ = false

-- the phase after a wake
abbrev pub woken_phase : Phase → Phase
woken_phase Idle = Queued
woken_phase Polling = Woken
woken_phase Queued = Queued
woken_phase Woken = Woken

-- the phase after a pending poll
abbrev pub phase_after_pending : Phase → Phase
phase_after_pending Polling = Idle
phase_after_pending Woken = Queued
phase_after_pending Idle = Idle
phase_after_pending Queued = Queued

-- the task in this phase
abbrev pub with_phase : Phase → Task → Task
with_phase phase task = record task { phase = phase }

-- the phase of the task of this number, if it is the one in the slot
abbrev pub phase_if : ℕ → Option Task → Option Phase
phase_if number None = None
phase_if number (Some task) = if nat_eq task.number number then Some task.phase else None

-- the phase of the task of this key, if it isn't finished
abbrev pub phase_at : TaskKey → (ℕ → Option Task) → Option Phase
phase_at key tasks = phase_if key.number (tasks key.slot)

-- the slot's task after a step on the task of this number
abbrev pub after_step : (Phase → Phase) → ℕ → Option Task → Option Task
after_step f number None = None
after_step f number (Some task) = if nat_eq task.number number then Some (record task { phase = f task.phase }) else Some task

-- the slot, if this holds
abbrev pub slot_if : Bool → ℕ → List ℕ
slot_if true slot = slot ∷ []
slot_if false slot = []
