-- A loop that runs until a future is done or it is stopped, as by calloop's block_on. No contract says what a look for a stop
-- finds, nor if the future was woken: both may come from anywhere.
use Rattle.std.specs.Prelude.{◌≡◌, ◌⊎◌, List, [], ◌∷◌, Bool, true, false, Option, Some, None, Result, Ok, Err}
use Rattle.calloop_slots.specs.declared.error.Error.{Error}
use Rattle.calloop_poll.specs.sys.Pollers.{Outside}
use Rattle.calloop_sources.specs.sources.Deeds.{Lent}
use Rattle.calloop_sources.specs.sources.Meanings.{Meaning}
use Rattle.calloop_loop.specs.declared.LoopCall.{LoopCall}
use Rattle.calloop_loop.specs.declared.LoopCall.TheVariants.{Dispatch, ForgetStop, LookForStop}
use Rattle.calloop_loop.specs.declared.LoopAnswer.{LoopAnswer}
use Rattle.calloop_loop.specs.declared.LoopAnswer.TheVariants.{Dispatched, StopForgotten, Stopped}
use Rattle.calloop_ends.specs.declared.futures.task.Poll.{Poll}
use Rattle.calloop_ends.specs.declared.futures.task.Poll.TheVariants.{Ready, Pending}
use Rattle.calloop_loop.specs.Askings.{Asks, Runs}
use Rattle.calloop_loop.specs.Machine.{View}
use Rattle.calloop_loop.specs.Rules.{RunLeads}
use Rattle.calloop_loop.specs.Running.{RoundCall}

-- what a poll may answer, and what it may make of the future
abbrev pub Polling : (S T : Type 0) → Type 1
Polling S T = S → Poll T → S → Type 0

-- it was polled, and is pending; or nobody had woken it, if this isn't its first round; calloop has a flag for that
abbrev pub PolledOrNot : {S T : Type 0} → (first : Bool) → Polling S T → S → S → Type 0
PolledOrNot true polls s t = polls s Pending t
PolledOrNot false polls s t = polls s Pending t ⊎ (t ≡ s)

-- The rounds of such a run, as those of `Rounds`: a look that finds a stop ends it without an output. After a look that finds
-- none the future is polled, always in the first round, and later if it was woken. Its output is the answer; without one there is
-- a dispatch without a timeout, and a call.
abbrev pub BlockedRounds : {D I P X F S T : Type 0} → RoundCall F X → (gives : T → Type 0) → Polling S T → (first : Bool) → S → F → X
    → List (LoopCall D P X I) → List (LoopAnswer D P X I) → Result (Option T) Error → (left : X) → Type 0
BlockedRounds called gives polls first s f x (LookForStop ∷ []) (Stopped true ∷ []) answer y = (answer ≡ Ok None) × (y ≡ x)
BlockedRounds {D} {I} {P} {X} {F} {S} {T} called gives polls first s f x (LookForStop ∷ []) (Stopped false ∷ []) answer y =
    (output : T) × (t : S) × polls s (Ready output) t × gives output × (answer ≡ Ok (Some output)) × (y ≡ x)
BlockedRounds {D} {I} {P} {X} {F} {S} called gives polls first s f x (LookForStop ∷ call ∷ calls) (Stopped false ∷ Dispatched (Ok u) left ∷ answers) answer y =
    (t : S) × PolledOrNot first polls s t × (call ≡ Dispatch None x) × (g : F) × (next : X) × called f left tt g next
    × BlockedRounds called gives polls false t g next calls answers answer y
BlockedRounds {D} {I} {P} {X} {F} {S} called gives polls first s f x (LookForStop ∷ call ∷ calls) (Stopped false ∷ Dispatched (Err e) left ∷ answers) answer y =
    (t : S) × PolledOrNot first polls s t × (call ≡ Dispatch None x) × (calls ≡ []) × (answers ≡ []) × (answer ≡ Err e) × (y ≡ left)
BlockedRounds called gives polls first s f x calls answers answer y = ⊥

-- what a run may do, from what is seen of the loop and of the data before to both after
abbrev pub BlocksTo : {D I P X F S T : Type 0} → Meaning D P (Lent X (Asks D I)) → Runs D I X → Outside P → RoundCall F X
    → (gives : T → Type 0) → Polling S T → S → F → X → View D I P → Result (Option T) Error → (left : X) → View D I P → Type 0
BlocksTo {D} {I} {P} {X} M runs O called gives polls s f x v answer y t =
    (calls : List (LoopCall D P X I)) × (answers : List (LoopAnswer D P X I))
    × BlockedRounds called gives polls true s f x calls answers answer y
    × RunLeads M runs O (ForgetStop ∷ calls) (StopForgotten ∷ answers) v t
