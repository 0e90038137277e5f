-- What the two ends of an adapter know of it. From calloop's `IoDispatcher`, which calls the poller at once: here what a poll
-- waits for, and its drop, are marked, and the loop takes them up before its next wait.
use Rattle.std.specs.Prelude.{Bool, true, false, ◌&&◌, ◌||◌, if◌then◌else◌, is_some, Option, Some, None, Result, Ok, Err}
use Rattle.calloop_slots.specs.declared.error.Error.{Error}
use Rattle.calloop_poll.specs.declared.sys.Interest.{Interest}
use Rattle.calloop_poll.specs.declared.sys.Readiness.{Readiness}
use Rattle.calloop_io.specs.declared.state.State.{State}
use Rattle.calloop_io.specs.declared.refusal.Refusal.{Refusal}
use Rattle.calloop_io.specs.declared.state.Home.{Home}
use Rattle.calloop_ends.specs.declared.futures.task.Waker.{Waker}
use Rattle.calloop_io.specs.declared.notes.Settled.{Settled}
use Rattle.calloop_io.specs.declared.notes.Settled.TheVariants.{Stays, Registers, Leaves}
use Rattle.logbook.specs.Pages.{Book}

-- the readiness found answers a wait for this interest
abbrev pub suits : Interest → Readiness → Bool
suits wanted found = (wanted.readable && found.readable) || ((wanted.writable && found.writable) || found.error)

abbrev pub nothing_found : Readiness
nothing_found = record { readable = false; writable = false; error = false }

-- a poll's answer: first a kept refusal, and then the readiness found
abbrev pub answer_of : Option Refusal → Interest → Readiness → Option (Result (Unit {0}) Error)
answer_of (Some kept) wanted found = Some (Err kept.error)
answer_of None wanted found = if suits wanted found then Some (Ok tt) else None

-- each is answered once
abbrev pub left_of : Option Refusal → Readiness → Readiness
left_of (Some kept) found = found
left_of None found = nothing_found

abbrev pub after_answer : {R : Type 0} → State R → State R
after_answer s = record s { refusal = None; readiness = left_of s.refusal s.readiness }

-- what the loop is to do with an adapter, by its marks and by what it waits for
abbrev pub waiting_for : Option Interest → Settled
waiting_for None = Stays
waiting_for (Some interest) = Registers interest

abbrev pub settled_by : (marked dropped : Bool) → Option Interest → Settled
settled_by false dropped interest = Stays
settled_by true true interest = Leaves
settled_by true false interest = waiting_for interest

abbrev pub error_of : Refusal → Error
error_of kept = kept.error

-- nothing was done to it yet, and it is in no loop
abbrev pub fresh_state : {R : Type 0} → Book → State R
fresh_state name =
    record {
      interest = None;
      readiness = nothing_found;
      waker = None;
      refusal = None;
      marked = false;
      dropped = false;
      leaving = false;
      home = None;
      name = name;
    }

-- a poll waits for this interest, in place of an older one, and the adapter is marked if it is in a loop
abbrev pub after_wait : {R : Type 0} → Interest → Waker R → State R → State R
after_wait wanted waker s =
    record s { interest = Some wanted; waker = Some waker; marked = s.marked || is_some s.home }

-- an adapter comes into a loop, and is marked there
abbrev pub after_coming : {R : Type 0} → Home → State R → State R
after_coming home s = record s { home = Some home; marked = true }

-- its other end is gone, and the adapter is marked if it is in a loop
abbrev pub after_drop : {R : Type 0} → State R → State R
after_drop s = record s { dropped = true; marked = s.marked || is_some s.home }
