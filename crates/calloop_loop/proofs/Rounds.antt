-- The rounds of a loop that runs until it is stopped, one after the other.
use Rattle.std.proofs.Common.{List, [], ◌∷◌, true, false, Option, Result, Ok, Err, refl}
use Rattle.std.specs.declared.time.Duration.{Duration}
use Rattle.calloop_slots.specs.declared.error.Error.{Error}
use Rattle.calloop_poll.specs.sys.Pollers.{Outside}
use Rattle.calloop_sources.specs.sources.Deeds.{Lent}
use Rattle.calloop_sources.specs.sources.Meanings.{Meaning}
use Rattle.calloop_loop.specs.declared.LoopCall.{LoopCall}
use Rattle.calloop_loop.specs.declared.LoopCall.TheVariants.{Dispatch, ForgetStop, LookForStop}
use Rattle.calloop_loop.specs.declared.LoopAnswer.{LoopAnswer}
use Rattle.calloop_loop.specs.declared.LoopAnswer.TheVariants.{Dispatched, StopForgotten, Stopped}
use Rattle.calloop_loop.specs.Askings.{Asks, Runs}
use Rattle.calloop_loop.specs.Machine.{View}
use Rattle.calloop_loop.specs.Rules.{Case, Did, RunLeads}
use Rattle.calloop_loop.specs.Running.{RoundCall, Rounds, RunsTo}
use Rattle.calloop_loop.proofs.Running.{run_none, run_first}

-- rounds, from a look for a stop on
abbrev pub RoundsTo : {D I P X F : Type 0} → Meaning D P (Lent X (Asks D I)) → Runs D I X → Outside P → RoundCall F X → Option Duration → F → X → View D I P
    → Result (Unit {0}) Error → X → View D I P → Type 0
RoundsTo {D} {I} {P} {X} M runs O called timeout f x v answer y t =
    (calls : List (LoopCall D P X I)) × (answers : List (LoopAnswer D P X I)) × Rounds called timeout f x calls answers answer y × RunLeads M runs O calls answers v t

module _ {D I P X F : Type 0} (M : Meaning D P (Lent X (Asks D I))) (runs : Runs D I X) (O : Outside P) (called : RoundCall F X) (timeout : Option Duration) where
  -- an earlier stop is forgotten, and the rounds follow
  pub runs-begun : (f : F) (x : X) (v u : View D I P) (answer : Result (Unit {0}) Error) (y : X) (t : View D I P)
      → Did (Case M runs O ForgetStop StopForgotten) v u → RoundsTo M runs O called timeout f x u answer y t → RunsTo M runs O called timeout f x v answer y t
  runs-begun f x v u answer y t did (calls, answers, rounds, leads) =
      (calls, answers, rounds, run_first M runs O ForgetStop StopForgotten calls answers v u t did leads)

  -- the run is stopped
  pub runs-stopped : (f : F) (x : X) (v u : View D I P) → Did (Case M runs O LookForStop (Stopped true)) v u → RoundsTo M runs O called timeout f x v (Ok tt) x u
  runs-stopped f x v u did =
      (LookForStop ∷ [], Stopped true ∷ [], (refl, refl), run_first M runs O LookForStop (Stopped true) [] [] v u u did (run_none M runs O u))

  -- its dispatch fails
  pub runs-failed : (f : F) (x : X) (v s : View D I P) (e : Error) (left : X) (u : View D I P) → Did (Case M runs O LookForStop (Stopped false)) v s
      → Did (Case M runs O (Dispatch timeout x) (Dispatched (Err e) left)) s u → RoundsTo M runs O called timeout f x v (Err e) left u
  runs-failed f x v s e left u looked did = (
    LookForStop ∷ Dispatch timeout x ∷ [],
    Stopped false ∷ Dispatched (Err e) left ∷ [],
    (refl, refl, refl, refl, refl),
    run_first M runs O LookForStop (Stopped false) (Dispatch timeout x ∷ []) (Dispatched (Err e) left ∷ []) v s u looked
        (run_first M runs O (Dispatch timeout x) (Dispatched (Err e) left) [] [] s u u did (run_none M runs O u)),
  )

  -- another dispatch and call before rounds
  pub runs-on : (f : F) (x : X) (v s : View D I P) (left : X) (u : View D I P) (g : F) (next : X) (answer : Result (Unit {0}) Error) (y : X) (t : View D I P)
      → Did (Case M runs O LookForStop (Stopped false)) v s → Did (Case M runs O (Dispatch timeout x) (Dispatched (Ok tt) left)) s u → called f left tt g next
      → RoundsTo M runs O called timeout g next u answer y t → RoundsTo M runs O called timeout f x v answer y t
  runs-on f x v s left u g next answer y t looked did call (calls, answers, rounds, leads) = (
    LookForStop ∷ Dispatch timeout x ∷ calls,
    Stopped false ∷ Dispatched (Ok tt) left ∷ answers,
    (refl, g, next, call, rounds),
    run_first M runs O LookForStop (Stopped false) (Dispatch timeout x ∷ calls) (Dispatched (Ok tt) left ∷ answers) v s t looked
        (run_first M runs O (Dispatch timeout x) (Dispatched (Ok tt) left) calls answers s u t did leads),
  )
