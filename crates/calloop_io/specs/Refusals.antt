-- The refusal of a registration that an adapter keeps for its next poll. In calloop `readable` and `writable` drop it,
-- and `poll_read` and the like answer it at once.
use Rattle.std.specs.Prelude.{◌≡◌, Bool, true, false, Result, IfErr}
use Rattle.calloop_slots.specs.declared.error.Error.{Error}
use Rattle.calloop_slots.specs.declared.error.Error.TheVariants.{
  InvalidToken,
  IoError,
  OtherError,
  OutOfMemory,
  TooManySources,
  TooManyTokens,
  TooManyTimers,
  TooManyTickets,
  OwnTurn,
  NoRendezvous,
}

-- the possible errors of a socket's registration: an error of the poller or of the table, or running out of memory
abbrev pub of_registration : Error → Bool
of_registration (IoError cause) = true
of_registration OutOfMemory = true
of_registration InvalidToken = false
of_registration (OtherError cause) = false
of_registration TooManySources = false
of_registration TooManyTokens = false
of_registration TooManyTimers = false
of_registration TooManyTickets = false
of_registration OwnTurn = false
of_registration NoRendezvous = false

-- the answer to a wait for a socket: it is ready, or its registration failed so
abbrev pub IsAnswer : Result (Unit {0}) Error → Type 0
IsAnswer answer = IfErr answer (λ e. of_registration e ≡ true)
