-- The rounds of a loop that runs until a future is done, one after the other.
use Rattle.std.proofs.Common.{List, [], ◌∷◌, Bool, true, false, Option, Some, None, Result, Ok, Err, refl}
use Rattle.calloop_slots.specs.declared.error.Error.{Error}
use Rattle.calloop_poll.specs.sys.Pollers.{Outside}
use Rattle.calloop_sources.specs.sources.Deeds.{Lent}
use Rattle.calloop_sources.specs.sources.Meanings.{Meaning}
use Rattle.calloop_loop.specs.declared.LoopCall.{LoopCall}
use Rattle.calloop_loop.specs.declared.LoopCall.TheVariants.{Dispatch, ForgetStop, LookForStop}
use Rattle.calloop_loop.specs.declared.LoopAnswer.{LoopAnswer}
use Rattle.calloop_loop.specs.declared.LoopAnswer.TheVariants.{Dispatched, StopForgotten, Stopped}
use Rattle.calloop_loop.specs.Askings.{Asks, Runs}
use Rattle.calloop_loop.specs.Machine.{View}
use Rattle.calloop_loop.specs.Rules.{Case, Did, RunLeads}
use Rattle.calloop_loop.specs.Running.{RoundCall}
use Rattle.calloop_ends.specs.declared.futures.task.Poll.TheVariants.{Ready}
use Rattle.calloop_loop.specs.Blocking.{Polling, PolledOrNot, BlockedRounds, BlocksTo}
use Rattle.calloop_loop.proofs.Running.{run_none, run_first}

-- rounds, from a look for a stop on
abbrev pub BlockedTo : {D I P X F S T : Type 0} → Meaning D P (Lent X (Asks D I)) → Runs D I X → Outside P → RoundCall F X → (gives : T → Type 0) → Polling S T → (first : Bool) → S → F → X → View D I P
    → Result (Option T) Error → X → View D I P → Type 0
BlockedTo {D} {I} {P} {X} M runs O called gives polls first s f x v answer y t =
    (calls : List (LoopCall D P X I)) × (answers : List (LoopAnswer D P X I)) × BlockedRounds called gives polls first s f x calls answers answer y × RunLeads M runs O calls answers v t

module _ {D I P X F S T : Type 0} (M : Meaning D P (Lent X (Asks D I))) (runs : Runs D I X) (O : Outside P) (called : RoundCall F X) (gives : T → Type 0) (polls : Polling S T) where
  -- an earlier stop is forgotten, and the rounds follow
  pub blocked-begun : (s : S) (f : F) (x : X) (v u : View D I P) (answer : Result (Option T) Error) (y : X) (t : View D I P)
      → Did (Case M runs O ForgetStop StopForgotten) v u → BlockedTo M runs O called gives polls true s f x u answer y t → BlocksTo M runs O called gives polls s f x v answer y t
  blocked-begun s f x v u answer y t did (calls, answers, rounds, leads) =
      (calls, answers, rounds, run_first M runs O ForgetStop StopForgotten calls answers v u t did leads)

  -- the run is stopped
  pub blocked-stopped : (first : Bool) (s : S) (f : F) (x : X) (v u : View D I P) → Did (Case M runs O LookForStop (Stopped true)) v u → BlockedTo M runs O called gives polls first s f x v (Ok None) x u
  blocked-stopped first s f x v u did =
      (LookForStop ∷ [], Stopped true ∷ [], (refl, refl), run_first M runs O LookForStop (Stopped true) [] [] v u u did (run_none M runs O u))

  -- the future is done
  pub blocked-done : (first : Bool) (s s' : S) (f : F) (x : X) (v u : View D I P) (output : T) → Did (Case M runs O LookForStop (Stopped false)) v u → polls s (Ready output) s' → gives output
      → BlockedTo M runs O called gives polls first s f x v (Ok (Some output)) x u
  blocked-done first s s' f x v u output did polled given =
      (LookForStop ∷ [], Stopped false ∷ [], (output, s', polled, given, refl, refl), run_first M runs O LookForStop (Stopped false) [] [] v u u did (run_none M runs O u))

  -- its dispatch fails
  pub blocked-failed : (first : Bool) (s s' : S) (f : F) (x : X) (v w : View D I P) (e : Error) (left : X) (u : View D I P) → Did (Case M runs O LookForStop (Stopped false)) v w → PolledOrNot first polls s s'
      → Did (Case M runs O (Dispatch None x) (Dispatched (Err e) left)) w u → BlockedTo M runs O called gives polls first s f x v (Err e) left u
  blocked-failed first s s' f x v w e left u looked polled did = (
    LookForStop ∷ Dispatch None x ∷ [],
    Stopped false ∷ Dispatched (Err e) left ∷ [],
    (s', polled, refl, refl, refl, refl, refl),
    run_first M runs O LookForStop (Stopped false) (Dispatch None x ∷ []) (Dispatched (Err e) left ∷ []) v w u looked
        (run_first M runs O (Dispatch None x) (Dispatched (Err e) left) [] [] w u u did (run_none M runs O u)),
  )

  -- another dispatch and call before rounds
  pub blocked-on : (first : Bool) (s s' : S) (f : F) (x : X) (v w : View D I P) (left : X) (u : View D I P) (g : F) (next : X) (answer : Result (Option T) Error) (y : X) (t : View D I P)
      → Did (Case M runs O LookForStop (Stopped false)) v w → PolledOrNot first polls s s' → Did (Case M runs O (Dispatch None x) (Dispatched (Ok tt) left)) w u → called f left tt g next
      → BlockedTo M runs O called gives polls false s' g next u answer y t → BlockedTo M runs O called gives polls first s f x v answer y t
  blocked-on first s s' f x v w left u g next answer y t looked polled did call (calls, answers, rounds, leads) = (
    LookForStop ∷ Dispatch None x ∷ calls,
    Stopped false ∷ Dispatched (Ok tt) left ∷ answers,
    (s', polled, refl, g, next, call, rounds),
    run_first M runs O LookForStop (Stopped false) (Dispatch None x ∷ calls) (Dispatched (Ok tt) left ∷ answers) v w t looked
        (run_first M runs O (Dispatch None x) (Dispatched (Ok tt) left) calls answers w u t did leads),
  )
