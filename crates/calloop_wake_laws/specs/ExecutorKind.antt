-- The cells of executors as a kind of the wake machine: a put, a wake, a pop, and the end of a turn. The machine also keeps the
-- tasks whose results were handed out.
use Rattle.std.specs.Prelude.{◌≡◌, ℕ, ◌<◌, Bool, true, false, ◌⊎◌, List, [], ◌∷◌, ◌++◌, Option, Some, None, IsSome}
use Rattle.futures.specs.LinkedLists.{IsIn, IsApart}
use Rattle.calloop_wake.specs.declared.tasks.Task.{Task}
use Rattle.calloop_wake.specs.declared.tasks.TaskKey.{TaskKey}
use Rattle.calloop_wake.specs.Executors.{
  ExecutorCell,
  fresh_executor,
  after_put,
  after_wake,
  after_pop,
  after_end_turn,
  after_set_key,
  after_clear_key,
  opens,
  in_turn,
  most_tasks,
  IsStandingExecutor,
}
use Rattle.calloop_wake_laws.specs.Wakes.{Kind}

-- an executor's cell, and the numbers of the tasks whose results were handed out, in order; calloop keeps none of them
pub record ExecutorPast : Type 0 where
  pub now : ExecutorCell
  pub given : List ℕ

-- an executor to which nothing has happened
abbrev pub unused_executor : ExecutorPast
unused_executor = record { now = fresh_executor; given = [] }

abbrev pub past_with : ExecutorCell → ExecutorPast → ExecutorPast
past_with c p = record p { now = c }

-- the steps that only this kind has
pub data ExecutorStep : Type 0 where
  Put : (slot home : ℕ) → ExecutorStep
  Wake : TaskKey → ExecutorStep
  -- whether the poll of the task that was popped before finished it
  Pop EndTurn : (finished : Bool) → ExecutorStep

-- A task is put into a vacant slot if the executor is there. A turn pops until a pop returns no task, and at most 1,024
-- times, and then it ends. A task that finishes was popped before.
abbrev pub executor_needs : ExecutorStep → ExecutorCell → Type 0
executor_needs (Put slot home) c = (c.gone ≡ false) × (c.tasks slot ≡ None)
executor_needs (Wake key) c = Unit {0}
executor_needs (Pop finished) c =
    (c.draining ≡ true) × (c.progress.dry ≡ false) × (c.progress.pops < most_tasks)
    × (finished ≡ true → IsSome c.progress.polled)
executor_needs (EndTurn finished) c =
    (c.draining ≡ true) × ((c.progress.dry ≡ true) ⊎ (c.progress.pops ≡ most_tasks))
    × (finished ≡ true → IsSome c.progress.polled)

abbrev pub executor_after : ExecutorStep → ExecutorCell → ExecutorCell
executor_after (Put slot home) c = after_put slot home c
executor_after (Wake key) c = after_wake key c
executor_after (Pop finished) c = after_pop finished c
executor_after (EndTurn finished) c = after_end_turn finished c

-- the number of the task that was polled, if it is finished
abbrev pub given_of : Option TaskKey → (finished : Bool) → List ℕ
given_of None finished = []
given_of (Some key) true = key.number ∷ []
given_of (Some key) false = []

-- the task whose result a step hands out
abbrev pub given_by : ExecutorStep → ExecutorCell → List ℕ
given_by (Put slot home) c = []
given_by (Wake key) c = []
given_by (Pop finished) c = given_of c.progress.polled finished
given_by (EndTurn finished) c = given_of c.progress.polled finished

abbrev pub past_after : ExecutorStep → ExecutorPast → ExecutorPast
past_after s p = record { now = executor_after s p.now; given = p.given ++ given_by s p.now }

-- What holds of an executor: no wake is lost, each task is in the place that it says, no task's result is handed out twice,
-- and a task whose result was handed out is gone.
pub record IsStandingPast (p : ExecutorPast) : Type 0 where
  pub standing : IsStandingExecutor p.now
  pub once : IsApart p.given
  pub finished : (slot : ℕ) (task : Task) → p.now.tasks slot ≡ Some task → ¬ IsIn task.number p.given

abbrev pub is_of_turn : ExecutorStep → Type 0
is_of_turn (Put slot home) = ⊥
is_of_turn (Wake key) = ⊥
is_of_turn (Pop finished) = Unit {0}
is_of_turn (EndTurn finished) = Unit {0}

abbrev pub executor_kind : Kind
executor_kind =
    record {
      Cell = ExecutorPast;
      Own = ExecutorStep;
      key = λ p. p.now.key;
      pinged = λ p. p.now.pinged;
      Needs = λ s p. executor_needs s p.now;
      after = past_after;
      keyed = λ k p. past_with (after_set_key k p.now) p;
      unkeyed = λ by_drop p. past_with (after_clear_key by_drop p.now) p;
      opens = λ k p. opens k p.now;
      opened = λ p. past_with (in_turn p.now) p;
      draining = λ p. p.now.draining;
      OfTurn = is_of_turn;
      IsStanding = IsStandingPast;
    }
