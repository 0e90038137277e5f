-- The outcomes of adapting a socket, and of taking it back. Calloop's adapter is registered at once, and taken back without an
-- answer; here it is inserted as a source is, and leaves by its own case of the machine.
use Rattle.std.specs.Prelude.{◌≡◌, ◌⊎◌, ℕ, None, false, Ok, Err}
use Rattle.calloop_slots.specs.declared.error.Error.{Error}
use Rattle.calloop_slots.specs.declared.error.Error.TheVariants.{InvalidToken, OutOfMemory}
use Rattle.calloop_slots.specs.declared.error.InsertError.{InsertError}
use Rattle.calloop_slots.specs.declared.token.RegistrationToken.{RegistrationToken}
use Rattle.calloop_sources.specs.sources.Deeds.{Lent}
use Rattle.calloop_sources.specs.sources.Meanings.{Meaning}
use Rattle.calloop_poll.specs.sys.Pollers.{Outside}
use Rattle.calloop_loop.specs.declared.LoopHandle.{LoopHandle}
use Rattle.calloop_loop.specs.declared.LoopCall.TheVariants.{Insert, Release}
use Rattle.calloop_loop.specs.declared.LoopAnswer.TheVariants.{Inserted, Released}
use Rattle.calloop_io.specs.declared.state.PollTally.{PollTally}
use Rattle.calloop_io.specs.declared.adapter.Adapter.{Adapter}
use Rattle.calloop_loop.specs.declared.asks.Request.TheVariants.{Insert as AskInsert}
use Rattle.calloop_loop.specs.Askings.{Asks, Runs, IsAsked}
use Rattle.calloop_loop.specs.Handles.{held_by, IsCase}

-- an adapter that is in no loop yet
pub record IsInNoLoop {F R : Type 0} (adapter : Adapter F R) : Type 0 where
  pub token : adapter.token ≡ None
  pub entered : adapter.entered ≡ false

-- the loop is asked, under this ticket, to insert the loop's end of the adapter of this `Async`
abbrev pub IsAskedToAdapt : {D F R I : Type 0} → (placed : Adapter F R → D) → PollTally → (ticket : ℕ)
    → Asks D I → Asks D I → Type 0
IsAskedToAdapt {D} {F} {R} {I} placed made ticket old new =
    (adapter : Adapter F R) × IsInNoLoop adapter × (adapter.end.name ≡ made.name)
    × IsAsked (AskInsert (placed adapter)) ticket old new

module _ {D P C R X I : Type 0} (M : Meaning D P (Lent X (Asks D I))) (runs : Runs D I X) (O : Outside P) where
  -- the loop's end of the adapter of this `Async` was inserted
  abbrev pub IsAdapted : {F : Type 0} → (placed : Adapter F R → D) → PollTally → LoopHandle D P C R X I → LoopHandle D P C R X I
      → Type 0
  IsAdapted {F} placed made old new =
      (adapter : Adapter F R) × (token : RegistrationToken) × IsInNoLoop adapter
      × (adapter.end.name ≡ made.name)
      × IsCase M runs O (Insert (placed adapter)) (Inserted (Ok token)) old new

  -- the insertion of that end failed with this error; or there was no memory for the end before, and the loop is unchanged
  abbrev pub IsNotAdapted : {F : Type 0} → (placed : Adapter F R → D) → Error → LoopHandle D P C R X I → LoopHandle D P C R X I
      → Type 0
  IsNotAdapted {F} placed e old new =
      ((e ≡ OutOfMemory) × (held_by new ≡ held_by old))
      ⊎ ((adapter : Adapter F R) × (back : InsertError D) × (back.error ≡ e) × IsInNoLoop adapter
      × IsCase M runs O (Insert (placed adapter)) (Inserted (Err back)) old new)

  -- an adapter left the loop, and its registration was taken back
  abbrev pub IsGivenBack : LoopHandle D P C R X I → LoopHandle D P C R X I → Type 0
  IsGivenBack old new = (token : RegistrationToken) × IsCase M runs O (Release token) (Released (Ok tt)) old new

  -- the adapter stayed, with this error; or, with `InvalidToken`, it wasn't there, or left with its socket out already
  abbrev pub IsNotGivenBack : Error → LoopHandle D P C R X I → LoopHandle D P C R X I → Type 0
  IsNotGivenBack e old new =
      ((e ≡ InvalidToken) × (held_by new ≡ held_by old))
      ⊎ ((token : RegistrationToken) × IsCase M runs O (Release token) (Released (Err e)) old new)
      ⊎ ((e ≡ InvalidToken) × IsGivenBack old new)
