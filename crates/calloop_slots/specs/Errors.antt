-- How errors are converted.
use Rattle.std.specs.Prelude.{◌≡◌}
use Rattle.std.specs.IoError.{error_kind}
use Rattle.std.specs.declared.io.Error.{Error as IoErr}
use Rattle.std.specs.declared.io.ErrorKind.TheVariants.{InvalidInput, Other}
use Rattle.calloop_slots.specs.declared.error.Error.{Error}
use Rattle.calloop_slots.specs.declared.error.Error.TheVariants.{
  InvalidToken,
  IoError,
  OtherError,
  OutOfMemory,
  TooManySources,
  TooManyTokens,
  TooManyTimers,
  TooManyTickets,
  OwnTurn,
  NoRendezvous,
}

-- the io::Error of an error, as in calloop's error.rs, which keeps the cause of an OtherError: the content, or one of
-- this kind
abbrev pub AsIo : Error → IoErr → Type 0
AsIo (IoError cause) made = made ≡ cause
AsIo InvalidToken made = error_kind made ≡ InvalidInput
AsIo (OtherError cause) made = error_kind made ≡ Other
AsIo OutOfMemory made = error_kind made ≡ Other
AsIo TooManySources made = error_kind made ≡ Other
AsIo TooManyTokens made = error_kind made ≡ Other
AsIo TooManyTimers made = error_kind made ≡ Other
AsIo TooManyTickets made = error_kind made ≡ Other
AsIo OwnTurn made = error_kind made ≡ Other
AsIo NoRendezvous made = error_kind made ≡ Other
