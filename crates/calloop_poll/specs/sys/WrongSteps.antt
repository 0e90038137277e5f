-- A small case that the law on keys rules out: a socket that is entered under a key of another registration. calloop
-- has no such law.
use Rattle.std.specs.Prelude.{List, [], ◌∷◌, true, false}
use Rattle.calloop_slots.specs.declared.token.Token.{Token}
use Rattle.calloop_slots.specs.declared.token.RegistrationToken.{RegistrationToken}
use Rattle.calloop_poll.specs.declared.sys.Watched.{Watched}
use Rattle.calloop_poll.specs.declared.sys.Mode.TheVariants.{Level}
use Rattle.calloop_poll.specs.sys.Tables.{Enter}
use Rattle.calloop_poll.specs.sys.Polls.{PollStep, Socket}

abbrev pub first_registration : RegistrationToken
first_registration = record { slot = 0; version = 0 }

-- of the registration in the second slot
abbrev pub token_of_second : Token
token_of_second = record { slot = 1; version = 0; sub_id = 0 }

abbrev pub to_be_read : Watched
to_be_read = record { interest = record { readable = true; writable = false }; mode = Level }

abbrev pub enters_second : {P : Type 0} → (after : P) → List (PollStep P)
enters_second after = Socket (Enter token_of_second to_be_read) after ∷ []
