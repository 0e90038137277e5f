-- How the interest of an adapter is registered.
use Rattle.std.specs.Prelude.{Bool, true, false}
use Rattle.calloop_slots.specs.declared.token.Token.{Token}
use Rattle.calloop_poll.specs.declared.sys.Interest.{Interest}
use Rattle.calloop_poll.specs.declared.sys.Watched.{Watched}
use Rattle.calloop_poll.specs.declared.sys.Mode.TheVariants.{OneShot}
use Rattle.calloop_poll.specs.sys.Tables.{Edit, Enter, Change}

abbrev pub watched_once : Interest → Watched
watched_once interest = record { interest = interest; mode = OneShot }

-- under its token: first, or anew, even if the interest is the same
abbrev pub taking_up : Token → (entered : Bool) → Interest → Edit
taking_up token false interest = Enter token (watched_once interest)
taking_up token true interest = Change token token (watched_once interest)
