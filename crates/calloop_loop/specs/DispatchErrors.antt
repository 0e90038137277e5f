-- The possible errors of a dispatch. calloop's dispatch boxes those of sources, and returns the poller's as they are.
use Rattle.std.specs.Prelude.{◌≡◌, ◌⊎◌, ℕ, List, Option, Err}
use Rattle.std.specs.declared.io.Error.{Error as Cause}
use Rattle.calloop_slots.specs.declared.error.Error.{Error}
use Rattle.calloop_slots.specs.declared.error.Error.TheVariants.{IoError, OutOfMemory}
use Rattle.calloop_wake.specs.declared.watch.Watch.{Watch}
use Rattle.calloop_poll.specs.declared.sys.Readiness.{Readiness}
use Rattle.calloop_sources.specs.sources.Deeds.{Deed, Lent, Reregistered, Unregistered, Turned, Slept}
use Rattle.calloop_sources.specs.sources.Meanings.{Meaning}
use Rattle.calloop_poll.specs.sys.Pollers.{Outside}
use Rattle.calloop_poll.specs.sys.Polls.{PollView, PollStep}
use Rattle.calloop_poll.specs.sys.Waits.{Waited}

-- a wait of this poller failed so, and it wasn't interrupted
pub record WaitFailed {P : Type 0} (O : Outside P) (e : Error) : Type 0 where
  pub before : PollView P
  pub timeout : Option ℕ
  pub cause : Cause
  pub given : List (ℕ × Readiness)
  pub after : P
  pub watch : Watch
  pub waited : Waited O before timeout (Err cause) given after watch
  pub is : e ≡ IoError cause

-- it ended in this error: what a source did before a wait, its turn, or what it asked for as its turn ended
abbrev pub FailsWith : {X Q : Type 0} → Error → Deed (Lent X Q) → Type 0
FailsWith e (Slept given answer) = answer ≡ Err e
FailsWith e (Turned readiness token turn) = turn.answer ≡ Err e
FailsWith e (Reregistered before answer after) = answer ≡ Err e
FailsWith e (Unregistered answer) = answer ≡ Err e
FailsWith e deed = ⊥

-- a source failed so
pub record SourceFailed {D P X Q : Type 0} (M : Meaning D P (Lent X Q)) (e : Error) : Type 0 where
  pub before : D
  pub poll : PollView P
  pub deed : Deed (Lent X Q)
  pub steps : List (PollStep P)
  pub after : D
  pub does : M.does before poll deed steps after
  pub fails : FailsWith e deed

-- no memory was left, for the batch or to list a source that is told of waits; or the wait or a source failed
abbrev pub IsOfDispatch : {D P X Q : Type 0} → Meaning D P (Lent X Q) → Outside P → Error → Type 0
IsOfDispatch M O e = (e ≡ OutOfMemory) ⊎ (WaitFailed O e ⊎ SourceFailed M e)
