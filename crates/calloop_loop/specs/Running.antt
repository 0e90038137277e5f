-- A loop that runs until it is stopped: calloop's run. No contract says what a look for a stop finds, for a signal may come from
-- anywhere; as in calloop, an earlier stop is forgotten.
use Rattle.std.specs.Prelude.{◌≡◌, List, [], ◌∷◌, true, false, Option, Result, Ok, Err}
use Rattle.std.specs.declared.time.Duration.{Duration}
use Rattle.calloop_slots.specs.declared.error.Error.{Error}
use Rattle.calloop_poll.specs.sys.Pollers.{Outside}
use Rattle.calloop_sources.specs.sources.Deeds.{Lent}
use Rattle.calloop_sources.specs.sources.Meanings.{Meaning}
use Rattle.calloop_loop.specs.declared.LoopCall.{LoopCall}
use Rattle.calloop_loop.specs.declared.LoopCall.TheVariants.{Dispatch, ForgetStop, LookForStop}
use Rattle.calloop_loop.specs.declared.LoopAnswer.{LoopAnswer}
use Rattle.calloop_loop.specs.declared.LoopAnswer.TheVariants.{Dispatched, StopForgotten, Stopped}
use Rattle.calloop_loop.specs.Askings.{Asks, Runs}
use Rattle.calloop_loop.specs.Machine.{View}
use Rattle.calloop_loop.specs.Rules.{RunLeads}

-- a call of a function: the function and the data before it, and both after it
abbrev pub RoundCall : (F X : Type 0) → Type 1
RoundCall F X = F → X → Unit {0} → F → X → Type 0

-- The rounds of a run, of this function and these data. Each begins with a look for a stop, which ends the run if it finds one.
-- Else it is a dispatch, and then a call of the function with what the dispatch left of the data; the first error of a dispatch
-- ends the run without a call, and is its answer.
abbrev pub Rounds : {D I P X F : Type 0} → RoundCall F X → Option Duration → F → X → List (LoopCall D P X I)
    → List (LoopAnswer D P X I) → Result (Unit {0}) Error → (left : X) → Type 0
Rounds called timeout f x (LookForStop ∷ []) (Stopped true ∷ []) answer y = (answer ≡ Ok tt) × (y ≡ x)
Rounds {D} {I} {P} {X} {F} called timeout f x (LookForStop ∷ call ∷ calls) (Stopped false ∷ Dispatched (Ok u) left ∷ answers) answer y =
    (call ≡ Dispatch timeout x) × (g : F) × (next : X) × called f left tt g next
    × Rounds called timeout g next calls answers answer y
Rounds called timeout f x (LookForStop ∷ call ∷ calls) (Stopped false ∷ Dispatched (Err e) left ∷ answers) answer y =
    (call ≡ Dispatch timeout x) × (calls ≡ []) × (answers ≡ []) × (answer ≡ Err e) × (y ≡ left)
Rounds called timeout f x calls answers answer y = ⊥

-- what a run of a loop may do, from what is seen of the loop and of the data before to both after
abbrev pub RunsTo : {D I P X F : Type 0} → Meaning D P (Lent X (Asks D I)) → Runs D I X → Outside P → RoundCall F X
    → Option Duration → F → X → View D I P → Result (Unit {0}) Error → (left : X) → View D I P → Type 0
RunsTo {D} {I} {P} {X} M runs O called timeout f x v answer y t =
    (calls : List (LoopCall D P X I)) × (answers : List (LoopAnswer D P X I))
    × Rounds called timeout f x calls answers answer y
    × RunLeads M runs O (ForgetStop ∷ calls) (StopForgotten ∷ answers) v t
