-- The message that a failed send hands back.
use Rattle.calloop_ends.specs.declared.channel.errors.SendError as sent
use Rattle.calloop_ends.specs.declared.channel.errors.SendError.TheVariants.{Disconnected, OutOfMemory}
use Rattle.calloop_ends.specs.declared.channel.errors.TrySendError as tried
use Rattle.calloop_ends.specs.declared.channel.errors.TrySendError.TheVariants.{Full, Disconnected as Left}

-- the message that a send hands back
abbrev pub unsent : {T : Type 0} → sent.SendError T → T
unsent (Disconnected x) = x
unsent (OutOfMemory x) = x

abbrev pub IsDisconnected : {T : Type 0} → sent.SendError T → Type 0
IsDisconnected (Disconnected x) = Unit {0}
IsDisconnected (OutOfMemory x) = ⊥

abbrev pub message_back : {T : Type 0} → tried.TrySendError T → T
message_back (Full x) = x
message_back (Left x) = x
