-- What the three calls of `Poll` for a socket do. calloop calls its poller at once, which refuses by descriptor; here the
-- table refuses first, by key; then memory may run out; then the poller may fail; on failure the table is unchanged.
use Rattle.std.specs.Prelude.{◌≡◌, ◌⊎◌, ◌∷◌, [], List, ℤ, true, Option, None, Some, Result, Ok, Err}
use Rattle.std.specs.declared.io.Error.{Error as Cause}
use Rattle.std.specs.declared.io.ErrorKind.{ErrorKind}
use Rattle.calloop_slots.specs.declared.error.Error.{Error}
use Rattle.calloop_slots.specs.declared.error.Error.TheVariants.{IoError, OutOfMemory}
use Rattle.calloop_poll.specs.sys.Pollers.{Outside, Sockets, PollerCall}
use Rattle.calloop_poll.specs.sys.Tables.{Edit, cannot, grows, call_of, CalledFor}
use Rattle.calloop_poll.specs.sys.Polls.{PollView, PollStep, Socket, Fault, AllStepped, IsOfKind}

-- a call's fault as an error of the loop
abbrev pub as_loop : Result (Unit {0}) Cause → Result (Unit {0}) Error
as_loop (Ok u) = Ok u
as_loop (Err cause) = Err (IoError cause)

-- the poller's call failed, which is the only step
pub record IsFaulted
    {P : Type 0} (sockets : Sockets P) (v : PollView P) (edit : Edit) (fd : ℤ) (e : Error)
    (steps : List (PollStep P)) : Type 0 where
  pub call : PollerCall
  pub cause : Cause
  pub after : P
  pub wanted : call_of edit v.table ≡ Some call
  pub told : e ≡ IoError cause
  pub called : sockets v.poller fd call (Err cause) after
  pub stepped : steps ≡ Fault call cause after ∷ []

-- an edit that the table doesn't refuse is done, by one step; or there is no memory for a key that is new, and no poller
-- was called
abbrev pub Tried : {P : Type 0} → Sockets P → PollView P → Edit → (fd : ℤ)
    → Result (Unit {0}) Error → List (PollStep P) → Type 0
Tried {P} sockets v edit fd (Ok u) steps =
    (after : P) × CalledFor sockets v.poller fd (call_of edit v.table) (Ok tt) after
    × (steps ≡ Socket edit after ∷ [])
Tried sockets v edit fd (Err e) steps =
    ((grows edit ≡ true) × (e ≡ OutOfMemory) × (steps ≡ [])) ⊎ IsFaulted sockets v edit fd e steps

-- the result, by the table's reason to refuse, if it has one
abbrev pub TriedUnless : {P : Type 0} → Option ErrorKind → Sockets P → PollView P → Edit → (fd : ℤ)
    → Result (Unit {0}) Error → List (PollStep P) → Type 0
TriedUnless None sockets v edit fd answer steps = Tried sockets v edit fd answer steps
TriedUnless (Some kind) sockets v edit fd answer steps =
    (e : Error) × (answer ≡ Err e) × IsOfKind kind e × (steps ≡ [])

abbrev pub Edits : {P : Type 0} → Sockets P → PollView P → Edit → (fd : ℤ)
    → Result (Unit {0}) Error → List (PollStep P) → Type 0
Edits sockets v edit fd answer steps = TriedUnless (cannot edit v.table) sockets v edit fd answer steps

abbrev pub DidEdit : {P : Type 0} → Outside P → Sockets P → Edit → PollView P → (fd : ℤ)
    → Result (Unit {0}) Error → PollView P → Type 0
DidEdit {P} O sockets edit v fd answer w =
    (steps : List (PollStep P)) × Edits sockets v edit fd answer steps × AllStepped O v steps w
