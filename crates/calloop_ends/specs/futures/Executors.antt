-- An executor as a source. Its registrations are those of every cell.
use Rattle.std.specs.Prelude.{◌≡◌, ℕ, ◌+◌, ◌≤◌, Bool, true, false, List, [], ◌∷◌, ◌++◌, length}
use Rattle.calloop_wake.specs.declared.Tally.{Tally}
use Rattle.calloop_wake.specs.Cells.{one}
use Rattle.calloop_wake.specs.Executors.{most_tasks}
use Rattle.calloop_sources.specs.declared.sources.source.PostAction.TheVariants.{Continue}
use Rattle.calloop_sources.specs.sources.Calls.{CallbackCall}
use Rattle.calloop_sources.specs.sources.Deeds.{Heard}
use Rattle.calloop_sources.specs.sources.Meanings.{Meaning}
use Rattle.calloop_ends.specs.declared.futures.errors.ExecutorError.{ExecutorError}
use Rattle.calloop_ends.specs.declared.futures.task.Poll.{Poll}
use Rattle.calloop_ends.specs.declared.futures.task.Poll.TheVariants.{Ready, Pending}
use Rattle.calloop_ends.specs.cell.CellSources.{OpenTurns, cell_meaning}

-- the calls of an executor's callback, with the results of its futures
abbrev pub ResultCalls : Type 0 → Type 0
ResultCalls O = List (CallbackCall O (Unit {0}) (Unit {0}))

-- the outcome of one pop of a turn
pub data OfPop (O : Type 0) : Type 0 where
  -- its task's future was polled, and gave this result
  Gave : (x : O) → OfPop O
  -- the future was polled, and is pending
  Pends : OfPop O
  -- the future is still to come, so nothing was polled
  Lacks : OfPop O

abbrev pub gave : {O : Type 0} → OfPop O → Bool
gave (Gave x) = true
gave Pends = false
gave Lacks = false

abbrev pub lacks : {O : Type 0} → OfPop O → Bool
lacks (Gave x) = false
lacks Pends = false
lacks Lacks = true

-- the call of one pop: with the future's result, or none
abbrev pub call_of : {O : Type 0} → OfPop O → ResultCalls O
call_of (Gave x) = record { event = x; before = tt; after = tt; answer = tt } ∷ []
call_of Pends = []
call_of Lacks = []

-- the calls for the polls of a turn, in order
abbrev pub calls_of : {O : Type 0} → List (OfPop O) → ResultCalls O
calls_of [] = []
calls_of (p ∷ ps) = call_of p ++ calls_of ps

-- how many of them gave a result
abbrev pub results_of : {O : Type 0} → List (OfPop O) → ℕ
results_of [] = 0
results_of (p ∷ ps) = one (gave p) + results_of ps

-- for how many of them the future was still to come
abbrev pub misses_of : {O : Type 0} → List (OfPop O) → ℕ
misses_of [] = 0
misses_of (p ∷ ps) = one (lacks p) + misses_of ps

-- The outcome of a future of the executor's type: a result that it may give, by a poll that it may make; or pending after one.
abbrev pub ComesOf : {F O : Type 0} → (gives : F → O → Type 0) → (polls : F → Poll O → F → Type 0) → OfPop O → Type 0
ComesOf {F} gives polls (Gave x) = (future : F) × (after : F) × polls future (Ready x) after × gives future x
ComesOf {F} gives polls Pends = (future : F) × (after : F) × polls future Pending after
ComesOf gives polls Lacks = Unit {0}

-- the outcomes of the pops of a turn, if each is so
abbrev pub AllGiven : {O : Type 0} → (given : OfPop O → Type 0) → List (OfPop O) → Type 0
AllGiven given [] = Unit {0}
AllGiven given (p ∷ ps) = given p × AllGiven given ps

-- At most 1,024 tasks are polled, in queue order, and the callback is called with each result, one that some future of the executor's type
-- may give; the tally counts just these. The source always goes on. calloop's process_events is this loop over its runnables.
abbrev pub ExecutorOpens : {O : Type 0} → (given : OfPop O → Type 0) → OpenTurns Tally O (Unit {0}) (Unit {0})
ExecutorOpens {O} given tally calls action after =
    (polled : List (OfPop O)) × (length polled ≤ most_tasks) × (calls ≡ calls_of polled) × (action ≡ Continue)
    × (after ≡ record tally { turns = tally.turns + 1; number = tally.number + results_of polled; misses = tally.misses + misses_of polled })
    × AllGiven given polled

-- an executor is seen as its tally
abbrev pub executor_tally : Tally → Tally
executor_tally tally = tally

-- its cell stays the same one
abbrev pub SameExecutor : (before after : Tally) → Type 0
SameExecutor before after = after.name ≡ before.name

abbrev pub executor_meaning : {P O : Type 0} → (given : OfPop O → Type 0)
    → Meaning Tally P (Heard O (Unit {0}) (Unit {0}) ExecutorError)
executor_meaning given = cell_meaning executor_tally SameExecutor (ExecutorOpens given)
